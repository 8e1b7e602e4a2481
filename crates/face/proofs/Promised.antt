-- What the promises fix, for any chip whose sheet makes sense. Two results that a promise admits are equal, out-parameters and lent
-- bytes included, since the promise of the crate below fixes its answer; each call answers exactly the number named here, and 0 exactly
-- if nothing is refused.
-- Assumes nothing.
use Prim.Native.Nat.{ℕ, zero, suc, ◌+◌, ◌*◌, ◌≤◌, ◌<◌}
use mathlib.Core.Path.{◌≡◌, ◌∙◌, refl, ap, sym, subst}
use mathlib.Core.Bool.{false, cond, not, ◌&&◌, ◌||◌}
use mathlib.Core.Option.{Option, none, some}
use mathlib.Core.List.{List}
use native.Mathlib.Omega.{arith}
use lib.ListN.{length}
use lib.Dec.{T, ltb}
use borrow.Author.Tests.{lt-ltb, ltb-false, le-ltb}
use Rattle.paper.specs.Refusal.{wrong_size, out_of_range, outside_field}
use Rattle.std.specs.Prelude.{Result}
use Rattle.paper.specs.Told.{Told, given, refused, told}
use Rattle.paper.specs.declared.refusal.Refusal.{Refusal}
use Rattle.paper.proofs.Telling.{told_one}
use Rattle.paper.specs.Sheet.{Sensible}
use Rattle.paper.specs.declared.sheet.Sheet.{Sheet}
use Rattle.paper.specs.Answers.{left_by, Through, same}
use Rattle.paper.proofs.Cases.{split}
use Rattle.paper.proofs.Exactly.{Exactly, then, both, same_number, past, only}
use Rattle.paper.proofs.Either.{or_left, or_right}
use Rattle.paper.proofs.Answering.{answers_one, if_split, if_both, test_number, number_number}
use Rattle.instructions.specs.Read.{assigned, nothing_awaited}
use Rattle.instructions.specs.Added.{of_other}
use Rattle.instructions.specs.declared.added.CommandSet.TheVariants.{Old}
use Rattle.instructions.specs.Write.{write_of, OutsideField, IsWritten}
use Rattle.instructions.proofs.Unique.{read_one, written_one, number_read, number_written_6}
use Rattle.registers.specs.Registers.{outside}
use Rattle.registers.specs.declared.Registers.{Registers}
use Rattle.registers.proofs.InRange.{powered_one, powered_inside}
use Rattle.controller.specs.State.{after_by}
use Rattle.controller.specs.Run.{BusCycle}
use Rattle.controller.specs.Cycle.{outcome, cycle_number}
use Rattle.controller.proofs.Keeping.{stays_inside}
use Rattle.controller.proofs.Unique.{cycled_one, number_exactly}
use Rattle.glass.specs.Frame.{refusal}
use Rattle.glass.specs.Voltage.{v0_of, v0_of0717}
use Rattle.glass.specs.declared.voltage.Fraction.{Fraction}
use Rattle.glass.proofs.Promised.{power_one, voltage_one, voltage_0717_one, shown_one}
use Rattle.streams.specs.Picture.{differs}
use Rattle.streams.specs.Update.{update_stream}
use Rattle.streams.specs.Length.{page_length, update_length}
use Rattle.streams.specs.Redraw.{redraw_stream}
use Rattle.streams.specs.Shape.{group}
use Rattle.planner.specs.Pictures.{misfit}
use Rattle.planner.specs.First.{told_found}
use Rattle.planner.specs.Sent.{Sent, update_refusal, redraw_refusal}
use Rattle.planner.specs.Group.{group_refusal}
use Rattle.planner.proofs.Exactly.{RightSize, LongOutput as Room, wrong_size_lem, right_size}
use Rattle.planner.proofs.Scanning.{first_given}
use Rattle.planner.proofs.Promised.{first_one, first_1, length_one, sent_one, update_0 as update_given, group_0 as group_given, redraw_0 as redraw_given}
use Rattle.state.specs.Packed.{flag_byte, packed, unpacked, awaited_of}
use Rattle.state.specs.Unfit.{unfit, unfit_number}
use Rattle.face.specs.Chip.{PowerUpOut, CycleOut, FrameOut, PowerOut, VoltageOut, VoltageOut0717}
use Rattle.face.specs.Bytes.{named, WrittenBy, ReadOut, WriteOut}
use Rattle.face.specs.Pictures.{FirstOut, LengthOut, UpdateOut, GroupOut, RedrawOut}
use Rattle.state.proofs.Accepting.{unfit_some, Accepted, packed_accepted, accepted_left}

-- ---- power-up

pub power_up_one : {k : Sheet} {s s' : List ℕ} {r r' : ℕ} → PowerUpOut k s r → PowerUpOut k s' r' → (s ≡ s') × (r ≡ r')
power_up_one f g = (f.left ∙ ap packed (powered_one f.promised g.promised) ∙ sym g.left, f.number ∙ sym g.number)

pub power_up_0 : {k : Sheet} {s : List ℕ} {r : ℕ} → PowerUpOut k s r → r ≡ 0
power_up_0 f = f.number

pub power_up_accepted : (k : Sheet) → Sensible k → {s : List ℕ} {r : ℕ} → PowerUpOut k s r → Accepted k s
power_up_accepted k g f =
    subst (Accepted k) (sym f.left) (packed_accepted k f.registers (powered_inside k g f.registers f.promised))

-- ---- one cycle

module _ (k : Sheet) (s m : List ℕ) (kind value read byte fresh : ℕ) where
  pub cycle_one : {s₁ s₂ m₁ m₂ : List ℕ} {read₁ read₂ byte₁ byte₂ fresh₁ fresh₂ r₁ r₂ : ℕ}
      → CycleOut k s m kind value read byte fresh s₁ m₁ read₁ byte₁ fresh₁ r₁ → CycleOut k s m kind value read byte fresh s₂ m₂ read₂ byte₂ fresh₂ r₂
      → (s₁ ≡ s₂) × (m₁ ≡ m₂) × (read₁ ≡ read₂) × (byte₁ ≡ byte₂) × (fresh₁ ≡ fresh₂) × (r₁ ≡ r₂)
  cycle_one {m₁ = m₁} {m₂ = m₂} f g =
      let p = if_both {X = (outcome f.answer ≡ outcome g.answer) × (m₁ ≡ m₂)} (unfit s) f.promised g.promised (λ p q. (p.0 ∙ sym q.0, p.1 ∙ sym q.1)) (λ p q. let c = cycled_one p q in (ap outcome c.0, c.1)) in
      let e = p.0 in (
        f.told.state_left ∙ ap (λ o. left_by packed s o.registers) e ∙ sym g.told.state_left,
        p.1,
        f.told.read_left ∙ ap (λ o. left_by (λ (b : ℕ). 1) read o.byte) e ∙ sym g.told.read_left,
        f.told.byte_left ∙ ap (λ o. left_by (λ (b : ℕ). b) byte o.byte) e ∙ sym g.told.byte_left,
        f.told.fresh_left ∙ ap (λ o. left_by flag_byte fresh o.fresh) e ∙ sym g.told.fresh_left,
        f.told.number ∙ ap (λ o. o.number) e ∙ sym g.told.number,
      )

  module _ (h : value < 256) {s' m' : List ℕ} {read' byte' fresh' r : ℕ} (f : CycleOut k s m kind value read byte fresh s' m' read' byte' fresh' r) where
    pub cycle_number_lem : r ≡ cond (unfit s) (unfit_number (misfit k.width m)) (cycle_number k (length m) (unpacked s) kind value)
    cycle_number_lem = f.told.number ∙ if_split (unfit s) f.promised
        (λ t p. ap (λ o. o.number) p.0 ∙ rw t refl)
        (λ t p. ap (λ o. o.number) p.tells ∙ number_exactly k (unpacked s) value h m kind ∙ rw t refl)

    pub cycle_0 : Exactly (r ≡ 0) ((unfit s ≡ false) × (cycle_number k (length m) (unpacked s) kind value ≡ 0))
    cycle_0 = then (same_number cycle_number_lem) (past (unfit s) _ _ 0 (unfit_some (misfit k.width m)))

  -- a state that is accepted stays one: whatever the cycle, the state that it leaves is fit and in range again
  pub cycle_again : Sensible k → {s' m' : List ℕ} {read' byte' fresh' r : ℕ} → CycleOut k s m kind value read byte fresh s' m' read' byte' fresh' r → Accepted k s → Accepted k s'
  cycle_again g f a = if_split (unfit s) f.promised (λ t p. absurd (subst T (sym t ∙ a.0) tt))
      (λ t p. accepted_left k s (outcome f.answer).registers a
      (λ q e. subst (λ (x : Option Registers). outside k (after_by (unpacked s) x) ≡ false) e
      (subst (λ o. outside k (after_by (unpacked s) o.registers) ≡ false) (sym p.tells)
      (stays_inside k g (unpacked s) m kind value a.1)))
      f.told.state_left)

-- ---- the glass

module _ (k : Sheet) (s m frame : List ℕ) where
  pub frame_one : {l l' : List ℕ} {r r' : ℕ} → FrameOut k s m frame l r → FrameOut k s m frame l' r' → (l ≡ l') × (r ≡ r')
  frame_one f g =
      let p = if_both (unfit s) f.promised g.promised (λ p q. (told_one f.answer g.answer (p.0 ∙ sym q.0), p.1 ∙ sym q.1)) (λ p q. shown_one p q) in
      (p.1, f.number ∙ ap (λ a. (told a).number) p.0 ∙ sym g.number)

  module _ {l : List ℕ} {r : ℕ} (f : FrameOut k s m frame l r) where
    pub frame_number : r ≡ cond (unfit s) (unfit_number (misfit k.width m || misfit k.width frame)) (refusal k (unpacked s) (length m) (length frame))
    frame_number = f.number ∙ if_split (unfit s) f.promised
        (λ t p. ap (λ o. o.number) p.0 ∙ rw t refl)
        (λ t p. ap (λ o. o.number) p.tells ∙ number_number (refusal k (unpacked s) (length m) (length frame)) tt ∙ rw t refl)

    pub frame_0 : Exactly (r ≡ 0) ((unfit s ≡ false) × (refusal k (unpacked s) (length m) (length frame) ≡ 0))
    frame_0 = then (same_number frame_number) (past (unfit s) _ _ 0 (unfit_some (misfit k.width m || misfit k.width frame)))

module _ (k : Sheet) (s : List ℕ) (answer : ℕ) where
  pub power_state_one : {a b r r' : ℕ} → PowerOut k s answer a r → PowerOut k s answer b r' → (a ≡ b) × (r ≡ r')
  power_state_one f g =
      answers_one (ap told (if_both (unfit s) f.promised g.promised (λ p q. p ∙ sym q) (λ p q. power_one p q))) f.answers g.answers

  module _ {a r : ℕ} (f : PowerOut k s answer a r) where
    pub power_state_number : r ≡ cond (unfit s) out_of_range (cond (outside k (unpacked s)) out_of_range 0)
    power_state_number = f.answers.number ∙ if_split (unfit s) f.promised
        (λ t p. ap (λ a. (told a).number) p ∙ rw t refl)
        (λ t p. ap (λ o. o.number) p.tells ∙ test_number (outside k (unpacked s)) out_of_range _ ∙ rw t refl)

    pub power_state_0 : Exactly (r ≡ 0) (Accepted k s)
    power_state_0 =
        then (same_number power_state_number)
        (then (past (unfit s) out_of_range _ 0 (λ e. omega arith)) (both (λ e. e, λ e. e) (only (outside k (unpacked s)) out_of_range (λ e. omega arith))))

-- what is told of V0, whichever chip's it is, is refused with this number and no other
module _ (resistor contrast : ℕ) (x : Fraction) {t : Told Fraction} (e : t ≡ cond (ltb 7 resistor || ltb 63 contrast) (refused out_of_range) (given x)) {r : ℕ} (n : r ≡ t.number) where
  told_number_lem : r ≡ cond (ltb 7 resistor || ltb 63 contrast) out_of_range 0
  told_number_lem = n ∙ ap (λ o. o.number) e ∙ test_number (ltb 7 resistor || ltb 63 contrast) out_of_range x

  told_0 : Exactly (r ≡ 0) ((resistor ≤ 7) × (contrast ≤ 63))
  told_0 =
      then (same_number told_number_lem)
      (then (only (ltb 7 resistor || ltb 63 contrast) out_of_range (λ e. omega arith)) (
        λ e. (ltb-false 7 resistor (or_left (ltb 7 resistor) (ltb 63 contrast) e), ltb-false 63 contrast (or_right (ltb 7 resistor) (ltb 63 contrast) e)),
        λ h. rw (le-ltb 7 resistor h.0, le-ltb 63 contrast h.1),
      ))

module _ (resistor contrast before : ℕ) where
  pub v0_one : {a b r r' : ℕ} → VoltageOut resistor contrast before a r → VoltageOut resistor contrast before b r' → (a ≡ b) × (r ≡ r')
  v0_one f g = answers_one (ap told (voltage_one f.promised g.promised)) f.answers g.answers

  module _ {a r : ℕ} (f : VoltageOut resistor contrast before a r) where
    pub v0_number : r ≡ cond (ltb 7 resistor || ltb 63 contrast) out_of_range 0
    v0_number = told_number_lem resistor contrast (v0_of resistor contrast) f.promised.tells f.answers.number

    pub v0_0 : Exactly (r ≡ 0) ((resistor ≤ 7) × (contrast ≤ 63))
    v0_0 = told_0 resistor contrast (v0_of resistor contrast) f.promised.tells f.answers.number

  pub v0_0717_one : {a b r r' : ℕ} → VoltageOut0717 resistor contrast before a r → VoltageOut0717 resistor contrast before b r' → (a ≡ b) × (r ≡ r')
  v0_0717_one f g = answers_one (ap told (voltage_0717_one f.promised g.promised)) f.answers g.answers

  module _ {a r : ℕ} (f : VoltageOut0717 resistor contrast before a r) where
    pub v0_0717_number : r ≡ cond (ltb 7 resistor || ltb 63 contrast) out_of_range 0
    v0_0717_number = told_number_lem resistor contrast (v0_of0717 resistor contrast) f.promised.tells f.answers.number

    pub v0_0717_0 : Exactly (r ≡ 0) ((resistor ≤ 7) × (contrast ≤ 63))
    v0_0717_0 = told_0 resistor contrast (v0_of0717 resistor contrast) f.promised.tells f.answers.number

-- ---- instructions by number

-- so above 2: 3 to 5 await a byte of the new set, and above 5 nothing has the number
awaited_by : (aw n : ℕ) → cond (ltb 5 aw) out_of_range (cond (of_other Old (awaited_of aw)) out_of_range n) ≡ cond (ltb 2 aw) out_of_range n
awaited_by zero n = refl
awaited_by (suc zero) n = refl
awaited_by (suc (suc zero)) n = refl
awaited_by (suc (suc (suc zero))) n = refl
awaited_by (suc (suc (suc (suc zero)))) n = refl
awaited_by (suc (suc (suc (suc (suc zero))))) n = refl
awaited_by (suc (suc (suc (suc (suc (suc x)))))) n = rw (lt-ltb 5 (suc (suc (suc (suc (suc (suc x)))))) (omega arith), lt-ltb 2 (suc (suc (suc (suc (suc (suc x)))))) (omega arith))

module _ (k : Sheet) (aw byte : ℕ) (before : ℕ × ℕ) where
  pub read_out_one : {a b : ℕ × ℕ} {r r' : ℕ} → ReadOut k aw byte before a r → ReadOut k aw byte before b r' → (a ≡ b) × (r ≡ r')
  read_out_one f g =
      answers_one (ap told (if_both (ltb 5 aw) f.promised g.promised (λ p q. p ∙ sym q) (λ p q. read_one p q))) f.answers g.answers

  module _ (h : byte < 256) {a : ℕ × ℕ} {r : ℕ} (f : ReadOut k aw byte before a r) where
    pub read_number : r ≡ cond (ltb 2 aw) out_of_range (cond (nothing_awaited (awaited_of aw) && not (assigned byte)) 4 0)
    read_number = f.answers.number ∙ if_split (ltb 5 aw) f.promised
        (λ t p. ap (λ a. (told a).number) p ∙ rw t refl)
        (λ t p. ap (λ x. x.number) p.tells ∙ (number_read byte h k (awaited_of aw)).0 ∙ rw t refl)
        ∙ awaited_by aw _

    pub read_0 : Exactly (r ≡ 0) ((aw ≤ 2) × ((nothing_awaited (awaited_of aw) && not (assigned byte)) ≡ false))
    read_0 =
        then (same_number read_number)
        (then (past (ltb 2 aw) out_of_range _ 0 (λ e. omega arith))
        (both (ltb-false 2 aw, le-ltb 2 aw) (only (nothing_awaited (awaited_of aw) && not (assigned byte)) 4 (λ e. omega arith))))

-- a number and a value name an instruction, and its value is inside its field
abbrev pub Writable : {I : Type 0} → (I → Told ℕ) → Option I → Type 0
Writable write (some i) = (write i).number ≡ 0
Writable write none = ⊥

-- they name none, or a value outside its field
abbrev pub Unwritable : {I : Type 0} → (I → Type 0) → Option I → Type 0
Unwritable Outside (some i) = Outside i
Unwritable Outside none = Unit {0}

-- what a writer promises of what is named, for any writer
module _ {I : Type 0} (Is : I → Result ℕ Refusal → Type 0) where
  pub written_by_one : ((i : I) (a b : Result ℕ Refusal) → Is i a → Is i b → a ≡ b) → (x : Option I) (a b : Result ℕ Refusal) → WrittenBy Is x a → WrittenBy Is x b → a ≡ b
  written_by_one one (some i) a b p q = one i a b p q
  written_by_one one none a b p q = p ∙ sym q

  module _ (write : I → Told ℕ) (tells : (i : I) (a : Result ℕ Refusal) → Is i a → told a ≡ write i) (a : Result ℕ Refusal) (r : ℕ) (e : r ≡ (told a).number) where
    pub writable : (x : Option I) → WrittenBy Is x a → Exactly (r ≡ 0) (Writable write x)
    writable (some i) p = same_number (e ∙ ap (λ t. t.number) (tells i a p))
    writable none p = (λ z. let n : outside_field ≡ 0 = sym (ap (λ a. (told a).number) p) ∙ sym e ∙ z in omega arith, λ z. absurd z)

    pub unwritable : (Outside : I → Type 0) → ((i : I) → Exactly ((write i).number ≡ outside_field) (Outside i)) → (x : Option I) → WrittenBy Is x a
        → Exactly (r ≡ outside_field) (Unwritable Outside x)
    unwritable Outside six (some i) p = then (same_number (e ∙ ap (λ t. t.number) (tells i a p))) (six i)
    unwritable Outside six none p = (λ z. tt, λ z. e ∙ ap (λ a. (told a).number) p)

module _ (k : Sheet) (number value byte : ℕ) where
  pub write_out_one : {a b r r' : ℕ} → WriteOut k number value byte a r → WriteOut k number value byte b r' → (a ≡ b) × (r ≡ r')
  write_out_one f g =
      answers_one (ap told (written_by_one (IsWritten k) (λ i a b p q. written_one p q) (named number value) f.answer g.answer f.promised g.promised))
      f.answers g.answers

  pub write_0 : {a r : ℕ} → WriteOut k number value byte a r → Exactly (r ≡ 0) (Writable (write_of k) (named number value))
  write_0 {r = r} f = writable (IsWritten k) (write_of k) (λ i a p. p.tells) f.answer r f.answers.number (named number value) f.promised

  -- 6 exactly if they name no instruction, or its value is outside its field
  pub write_6 : {a r : ℕ} → WriteOut k number value byte a r → Exactly (r ≡ outside_field) (Unwritable (OutsideField k) (named number value))
  write_6 {r = r} f =
      unwritable (IsWritten k) (write_of k) (λ i a p. p.tells) f.answer r f.answers.number (OutsideField k) (number_written_6 k) (named number value) f.promised

-- ---- pictures

-- any stream, in both outputs
abbrev pub SentOut : ℕ → List BusCycle → List ℕ → List ℕ → ℕ → List ℕ → List ℕ → ℕ → ℕ → Type 0
SentOut number s out kinds bytes out' kinds' bytes' r = Through (λ a. Sent number s out kinds a out' kinds') told same bytes bytes' r

module _ (number : ℕ) (s : List BusCycle) (out kinds : List ℕ) (bytes : ℕ) where
  sent_out_one : {o k o' k' : List ℕ} {a b r r' : ℕ} → SentOut number s out kinds bytes o k a r → SentOut number s out kinds bytes o' k' b r'
      → (o ≡ o') × (k ≡ k') × (a ≡ b) × (r ≡ r')
  sent_out_one f g =
      let p = sent_one f.promised g.promised in
      let q = answers_one (ap told p.0) f.answers g.answers in
      (p.1, p.2, q.0, q.1)

  sent_out_number : {o k : List ℕ} {a r : ℕ} → SentOut number s out kinds bytes o k a r → r ≡ number
  sent_out_number f = f.answers.number ∙ ap (λ o. o.number) f.promised.tells ∙ number_number number _

module _ (W : ℕ) (recorded wanted : List ℕ) where
  module _ (before : ℕ × ℕ × ℕ) where
    pub first_out_one : {a b : ℕ × ℕ × ℕ} {r r' : ℕ} → FirstOut W recorded wanted before a r → FirstOut W recorded wanted before b r' → (a ≡ b) × (r ≡ r')
    first_out_one f g = answers_one (ap told_found (first_one f.promised g.promised)) f.answers g.answers

    module _ {a : ℕ × ℕ × ℕ} {r : ℕ} (f : FirstOut W recorded wanted before a r) where
      pub first_number : r ≡ cond (misfit W recorded || misfit W wanted) wrong_size 0
      first_number = f.answers.number ∙ split (misfit W recorded || misfit W wanted)
          (λ t. ap (λ a. (told_found a).number) ((first_1 W recorded wanted f.answer f.promised).1 ((wrong_size_lem W recorded wanted).0 t)) ∙ rw t refl)
          (λ t. ap (λ o. o.number) (f.promised.tells ∙ first_given W recorded wanted t) ∙ rw t refl)

      pub first_0 : Exactly (r ≡ 0) (RightSize W recorded wanted)
      first_0 =
          then (same_number first_number)
          (then (only (misfit W recorded || misfit W wanted) wrong_size (λ e. omega arith)) (right_size W recorded wanted))

  module _ (bytes : ℕ) where
    pub length_out_one : {a b r r' : ℕ} → LengthOut W recorded wanted bytes a r → LengthOut W recorded wanted bytes b r' → (a ≡ b) × (r ≡ r')
    length_out_one f g = answers_one (ap told (length_one f.promised g.promised)) f.answers g.answers

    module _ {a r : ℕ} (f : LengthOut W recorded wanted bytes a r) where
      pub length_number : r ≡ cond (misfit W recorded || misfit W wanted) wrong_size 0
      length_number =
          f.answers.number ∙ ap (λ o. o.number) f.promised.tells
          ∙ test_number (misfit W recorded || misfit W wanted) wrong_size (update_length W recorded wanted)

      pub length_0 : Exactly (r ≡ 0) (RightSize W recorded wanted)
      length_0 =
          then (same_number length_number)
          (then (only (misfit W recorded || misfit W wanted) wrong_size (λ e. omega arith)) (right_size W recorded wanted))

  module _ (out kinds : List ℕ) (bytes : ℕ) where
    pub update_out_one : {o k o' k' : List ℕ} {a b r r' : ℕ} → UpdateOut W recorded wanted out kinds bytes o k a r → UpdateOut W recorded wanted out kinds bytes o' k' b r'
        → (o ≡ o') × (k ≡ k') × (a ≡ b) × (r ≡ r')
    update_out_one f g = sent_out_one _ (update_stream W recorded wanted) out kinds bytes f g

    pub update_number : {o k : List ℕ} {a r : ℕ} → UpdateOut W recorded wanted out kinds bytes o k a r → r ≡ update_refusal W recorded wanted out kinds
    update_number f = sent_out_number _ (update_stream W recorded wanted) out kinds bytes f

    pub update_0 : {o k : List ℕ} {a r : ℕ} → UpdateOut W recorded wanted out kinds bytes o k a r
        → Exactly (r ≡ 0) (RightSize W recorded wanted × Room (update_length W recorded wanted) out kinds)
    update_0 {o} {k} f = then (same_number f.answers.number) (update_given W recorded wanted out kinds f.answer o k f.promised)

module _ (W : ℕ) (recorded wanted : List ℕ) (page : ℕ) (out kinds : List ℕ) (bytes : ℕ) where
  pub group_out_one : {o k o' k' : List ℕ} {a b r r' : ℕ} → GroupOut W recorded wanted page out kinds bytes o k a r → GroupOut W recorded wanted page out kinds bytes o' k' b r'
      → (o ≡ o') × (k ≡ k') × (a ≡ b) × (r ≡ r')
  group_out_one f g = sent_out_one _ (group W recorded wanted page) out kinds bytes f g

  pub group_number : {o k : List ℕ} {a r : ℕ} → GroupOut W recorded wanted page out kinds bytes o k a r → r ≡ group_refusal W recorded wanted page out kinds
  group_number f = sent_out_number _ (group W recorded wanted page) out kinds bytes f

  pub group_0 : {o k : List ℕ} {a r : ℕ} → GroupOut W recorded wanted page out kinds bytes o k a r
      → Exactly (r ≡ 0) (RightSize W recorded wanted × ((page ≤ 8) × Room (page_length (differs W recorded wanted page) W) out kinds))
  group_0 {o} {k} f = then (same_number f.answers.number) (group_given W recorded wanted page out kinds f.answer o k f.promised)

module _ (W : ℕ) (wanted : List ℕ) (contrast : ℕ) (out kinds : List ℕ) (bytes : ℕ) where
  pub redraw_out_one : {o k o' k' : List ℕ} {a b r r' : ℕ} → RedrawOut W wanted contrast out kinds bytes o k a r → RedrawOut W wanted contrast out kinds bytes o' k' b r'
      → (o ≡ o') × (k ≡ k') × (a ≡ b) × (r ≡ r')
  redraw_out_one f g = sent_out_one _ (redraw_stream W wanted contrast) out kinds bytes f g

  pub redraw_number : {o k : List ℕ} {a r : ℕ} → RedrawOut W wanted contrast out kinds bytes o k a r → r ≡ redraw_refusal W wanted contrast out kinds
  redraw_number f = sent_out_number _ (redraw_stream W wanted contrast) out kinds bytes f

  pub redraw_0 : {o k : List ℕ} {a r : ℕ} → RedrawOut W wanted contrast out kinds bytes o k a r
      → Exactly (r ≡ 0) ((length wanted ≡ 9 * W) × ((contrast ≤ 63) × Room (4 + 9 * (W + 3)) out kinds))
  redraw_0 {o} {k} f = then (same_number f.answers.number) (redraw_given W wanted contrast out kinds f.answer o k f.promised)
