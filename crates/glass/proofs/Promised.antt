-- What frame, power_state and v0 promise fixes their answers: what is told of an answer tells all answers apart. And each number is given
-- exactly when its line of document 01's table holds and none earlier does. No refusal is 0.
-- Assumes nothing.
use Prim.Native.Nat.{ℕ, ◌+◌, ◌*◌, ◌<◌}
use mathlib.Core.Path.{◌≡◌, ◌∙◌, refl, ap, sym, subst}
use mathlib.Core.Logic.{◌≢◌, ◌⊎◌, inl, inr}
use mathlib.Core.Bool.{Bool, true, false, cond, not, ◌||◌}
use mathlib.Core.List.{List}
use native.Mathlib.Omega.{arith}
use lib.ListN.{length, get_or}
use lib.Dec.{ltb, eqb}
use borrow.Author.Tests.{ltb-true, lt-ltb, eqb-false, eq-eqb, ne_eqb, not-true}
use Rattle.std.specs.Prelude.{Result, Ok, Err}
use Rattle.paper.specs.Refusal.{wrong_size, out_of_range, number_of}
use Rattle.paper.specs.Told.{Told, given, refused, told}
use Rattle.paper.specs.declared.refusal.Refusal.{Refusal}
use Rattle.paper.specs.declared.refusal.Refusal.TheVariants.{WrongSize, OutOfRange}
use Rattle.paper.specs.declared.sheet.Sheet.{Sheet}
use Rattle.paper.proofs.Telling.{told_one, number_one, number_some, not_given, given_by}
use Rattle.paper.proofs.Refusing.{err_told}
use Rattle.paper.proofs.Answering.{refused_number}
use Rattle.paper.proofs.Either.{either, or_true}
use Rattle.paper.proofs.Exactly.{Exactly}
use Rattle.registers.specs.Registers.{outside}
use Rattle.registers.specs.declared.Registers.{Registers}
use Rattle.glass.specs.Frame.{frame_of, refusal, IsShown}
use Rattle.glass.specs.Power.{power_of, IsPower}
use Rattle.glass.specs.Voltage.{Fraction, fraction, IsV0, IsVoltage, ratios0717, numerator0717, IsVoltage0717}
use Rattle.glass.specs.declared.power.PowerState.{PowerState}
use Rattle.glass.proofs.Places.{right_sizes}

-- ---- an answer that is refused with one number where a test holds, and else given

module _ {A : Type 0} where
  only : (t : Bool) (r e : Refusal) (x : A) → refused (number_of e) ≡ cond t (refused (number_of r)) (given x) → (e ≡ r) × (t ≡ true)
  only true r e x f = (number_one e r (ap (λ t. t.number) f), refl)
  only false r e x f = absurd (not_given f)

  is_given : (t : Bool) (n : ℕ) (x : A) → given x ≡ cond t (given x) (refused n) → t ≡ true
  is_given true n x e = refl
  is_given false n x e = absurd (not_given (sym e))

-- ---- the power state

module _ {c : Sheet} {r : Registers} where
  -- two answers that the promise admits are equal
  pub power_one : {a b : Result PowerState Refusal} → IsPower c r a → IsPower c r b → a ≡ b
  power_one {a} {b} f g = told_one a b (f.tells ∙ sym g.tells)

  -- no number but 2, and 2 exactly if a register is outside its range
  pub power_number : {e : Refusal} → IsPower c r (Err e) → (e ≡ OutOfRange) × (outside c r ≡ true)
  power_number {e} f = only (outside c r) OutOfRange e (power_of r) f.tells

  pub power_2 : {a : Result PowerState Refusal} → IsPower c r a → Exactly (a ≡ Err OutOfRange) (outside c r ≡ true)
  power_2 {a} f = (
    (λ e. (power_number (subst (IsPower c r) e f)).1),
    (λ o. err_told a {r = OutOfRange} (rw o at f.tells)),
  )

  pub power_not_0 : {e : Refusal} → IsPower c r (Err e) → number_of e ≢ 0
  power_not_0 {e} f = number_some e

-- ---- V0

-- resistor or contrast is outside its range
abbrev pub Beyond : ℕ → ℕ → Type 0
Beyond k v = (7 < k) ⊎ (63 < v)

beyond : (k v : ℕ) → (ltb 7 k ≡ true) ⊎ (ltb 63 v ≡ true) → Beyond k v
beyond k v (inl e) = inl (ltb-true 7 k e)
beyond k v (inr e) = inr (ltb-true 63 v e)

tests : (k v : ℕ) → Beyond k v → (ltb 7 k ≡ true) ⊎ (ltb 63 v ≡ true)
tests k v (inl h) = inl (lt-ltb 7 k h)
tests k v (inr h) = inr (lt-ltb 63 v h)

-- whichever chip's it is
module _ {of : ℕ → ℕ → Fraction} {k v : ℕ} where
  v0_one : {a b : Result Fraction Refusal} → IsV0 of k v a → IsV0 of k v b → a ≡ b
  v0_one {a} {b} f g = told_one a b (f.tells ∙ sym g.tells)

  -- no number but 2, and 2 exactly if resistor or contrast is outside its range
  v0_number : {e : Refusal} → IsV0 of k v (Err e) → (e ≡ OutOfRange) × Beyond k v
  v0_number {e} f =
      let p = only (ltb 7 k || ltb 63 v) OutOfRange e (of k v) f.tells in
      (p.0, beyond k v (either (ltb 7 k) (ltb 63 v) p.1))

  v0_2 : {a : Result Fraction Refusal} → IsV0 of k v a → Exactly (a ≡ Err OutOfRange) (Beyond k v)
  v0_2 {a} f = (
    (λ e. (v0_number (subst (IsV0 of k v) e f)).1),
    (λ h. err_told a {r = OutOfRange} (rw (or_true (ltb 7 k) (ltb 63 v) (tests k v h)) at f.tells)),
  )

module _ {k v : ℕ} where
  pub voltage_one : {a b : Result Fraction Refusal} → IsVoltage k v a → IsVoltage k v b → a ≡ b
  voltage_one = v0_one

  pub voltage_number : {e : Refusal} → IsVoltage k v (Err e) → (e ≡ OutOfRange) × Beyond k v
  voltage_number = v0_number

  pub voltage_2 : {a : Result Fraction Refusal} → IsVoltage k v a → Exactly (a ≡ Err OutOfRange) (Beyond k v)
  voltage_2 = v0_2

  pub voltage_not_0 : {e : Refusal} → IsVoltage k v (Err e) → number_of e ≢ 0
  voltage_not_0 {e} f = number_some e

  pub voltage_0717_one : {a b : Result Fraction Refusal} → IsVoltage0717 k v a → IsVoltage0717 k v b → a ≡ b
  voltage_0717_one = v0_one

  -- a fraction that is given is V0's: 27 · V0 = ratio · (99 + contrast) · 35
  pub v0_0717 : {f : Fraction} → IsVoltage0717 k v (Ok f) → f ≡ fraction (get_or ratios0717 k 0 * (99 + v) * 35) 27
  unfolding numerator0717
  v0_0717 f = given_by (ltb 7 k || ltb 63 v) out_of_range f.tells

  pub voltage_0717_number : {e : Refusal} → IsVoltage0717 k v (Err e) → (e ≡ OutOfRange) × Beyond k v
  voltage_0717_number = v0_number

  pub voltage_0717_2 : {a : Result Fraction Refusal} → IsVoltage0717 k v a → Exactly (a ≡ Err OutOfRange) (Beyond k v)
  voltage_0717_2 = v0_2

  pub voltage_0717_not_0 : {e : Refusal} → IsVoltage0717 k v (Err e) → number_of e ≢ 0
  voltage_0717_not_0 {e} f = number_some e

-- ---- the frame

-- what is told, by the tests: the sizes are wrong, a register is outside its range
abbrev told_by : Bool → Bool → Told (Unit {0})
told_by w o = cond w (refused wrong_size) (cond o (refused out_of_range) (given tt))

told_by_lem : (w o : Bool) → let n = cond w wrong_size (cond o out_of_range 0) in cond (eqb n 0) (given tt) (refused n) ≡ told_by w o
told_by_lem true o = refl
told_by_lem false true = refl
told_by_lem false false = refl

-- a refusal, by the tests
told_number_lem : {X Y : Type 0} (w o : Bool) {e : Refusal} → (w ≡ true → X) → (w ≡ false → o ≡ true → Y)
    → refused (number_of e) ≡ told_by w o → ((e ≡ WrongSize) × X) ⊎ ((e ≡ OutOfRange) × Y)
told_number_lem true o {e} f g q = inl (number_one e WrongSize (ap (λ t. t.number) q), f refl)
told_number_lem false true {e} f g q = inr (number_one e OutOfRange (ap (λ t. t.number) q), g refl refl)
told_number_lem false false f g q = absurd (not_given q)

-- memory and frame are as long as they must be, or one of them is not
abbrev pub Sized : ℕ → ℕ → ℕ → Type 0
Sized size m n = (m ≡ size) × (n ≡ size)

abbrev pub Unsized : ℕ → ℕ → ℕ → Type 0
Unsized size m n = (m ≢ size) ⊎ (n ≢ size)

abbrev wrong : ℕ → ℕ → ℕ → Bool
wrong size m n = not (eqb m size) || not (eqb n size)

module _ (size m n : ℕ) where
  is_wrong : wrong size m n ≡ true → Unsized size m n
  is_wrong e = sizes (either (not (eqb m size)) (not (eqb n size)) e)
    where
      sizes : (not (eqb m size) ≡ true) ⊎ (not (eqb n size) ≡ true) → Unsized size m n
      sizes (inl e) = inl (eqb-false m size (not-true (eqb m size) e))
      sizes (inr e) = inr (eqb-false n size (not-true (eqb n size) e))

  wrong_is : Unsized size m n → wrong size m n ≡ true
  wrong_is (inl h) = or_true (not (eqb m size)) (not (eqb n size)) (inl (rw (ne_eqb m size h)))
  wrong_is (inr h) = or_true (not (eqb m size)) (not (eqb n size)) (inr (rw (ne_eqb n size h)))

  right_is : Sized size m n → wrong size m n ≡ false
  right_is h = rw (eq-eqb m size h.0, eq-eqb n size h.1)

module _ {c : Sheet} {r : Registers} {m frame : List ℕ} where
  -- two answers that the promise admits are equal, and so are the frames that they leave
  pub shown_one : {a b : Result (Unit {0}) Refusal} {k l : List ℕ} → IsShown c r m frame a k → IsShown c r m frame b l → (a ≡ b) × (k ≡ l)
  shown_one {a} {b} f g = (told_one a b (f.tells ∙ sym g.tells), f.leaves ∙ sym g.leaves)

  tells_by : {a : Result (Unit {0}) Refusal} {l : List ℕ} → IsShown c r m frame a l → told a ≡ told_by (wrong (9 * c.width) (length m) (length frame)) (outside c r)
  unfolding refusal
  tells_by f = f.tells ∙ told_by_lem (wrong (9 * c.width) (length m) (length frame)) (outside c r)

  -- no number but 1 and 2
  pub shown_number : {e : Refusal} {l : List ℕ} → IsShown c r m frame (Err e) l
      → ((e ≡ WrongSize) × Unsized (9 * c.width) (length m) (length frame))
      ⊎ ((e ≡ OutOfRange) × (Sized (9 * c.width) (length m) (length frame) × (outside c r ≡ true)))
  shown_number f =
      told_number_lem (wrong (9 * c.width) (length m) (length frame)) (outside c r)
      (λ e. is_wrong _ _ _ e)
      (λ e o. (right_sizes _ _ _ e, o))
      (tells_by f)

  -- 1 exactly if memory or frame is not nine pages
  pub shown_1 : {a : Result (Unit {0}) Refusal} {l : List ℕ} → IsShown c r m frame a l
      → Exactly (a ≡ Err WrongSize) (Unsized (9 * c.width) (length m) (length frame))
  shown_1 {a} {l} f = (
    (λ e. size (shown_number (subst (λ x. IsShown c r m frame x l) e f))),
    (λ h. err_told a {r = WrongSize} (rw (wrong_is _ _ _ h) at (tells_by f))),
  )
    where
      size : {X Y : Type 0} → ((WrongSize ≡ WrongSize) × X) ⊎ ((WrongSize ≡ OutOfRange) × Y) → X
      size (inl p) = p.1
      size (inr p) = absurd (let z : wrong_size ≡ out_of_range = ap number_of p.0 in omega arith)

  -- 2 exactly if both are and a register is outside its range
  pub shown_2 : {a : Result (Unit {0}) Refusal} {l : List ℕ} → IsShown c r m frame a l
      → Exactly (a ≡ Err OutOfRange) (Sized (9 * c.width) (length m) (length frame) × (outside c r ≡ true))
  shown_2 {a} {l} f = (
    (λ e. range (shown_number (subst (λ x. IsShown c r m frame x l) e f))),
    (λ h. err_told a {r = OutOfRange} (rw (right_is _ _ _ h.0, h.1) at (tells_by f))),
  )
    where
      range : {X Y : Type 0} → ((OutOfRange ≡ WrongSize) × X) ⊎ ((OutOfRange ≡ OutOfRange) × Y) → Y
      range (inl p) = absurd (let z : out_of_range ≡ wrong_size = ap number_of p.0 in omega arith)
      range (inr p) = p.1

  -- drawn, the whole frame is
  pub shown_drawn : {l : List ℕ} → IsShown c r m frame (Ok tt) l → l ≡ frame_of c r m
  shown_drawn f =
      let n = refusal c r (length m) (length frame) in
      rw (is_given (eqb n 0) n tt f.tells) at f.leaves

  -- a refusal alters nothing, and its number is not 0
  pub shown_refused_leaves : {e : Refusal} {l : List ℕ} → IsShown c r m frame (Err e) l → (number_of e ≢ 0) × (l ≡ frame)
  shown_refused_leaves {e} f =
      let q = refused_number (refusal c r (length m) (length frame)) (number_of e) tt f.tells in
      (q.0, f.leaves ∙ rw q.1 refl)
