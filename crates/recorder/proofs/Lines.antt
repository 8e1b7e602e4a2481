-- The line in front of a text: it is the line of the cycle that is read; a good cycle's line is read as that cycle; and the code's tests
-- of a line's bytes are that.
-- Assumes nothing.
use Prim.Native.Nat.{ℕ, ◌+◌, ◌*◌, ◌/◌, ◌%◌, ◌≤◌, ◌<◌}
use mathlib.Core.Path.{◌≡◌, refl, sym, ap, subst, ◌∙◌}
use mathlib.Core.Logic.{◌≢◌, ◌⊎◌, ⊎_elim}
use mathlib.Core.Bool.{Bool, true, false, cond, not, ◌||◌, ◌&&◌}
use mathlib.Core.List.{List, [], ◌∷◌, ◌++◌}
use native.Mathlib.Omega.{arith}
use borrow.Author.Tests.{lt-ltb, le-ltb, ltb-false, eq-eqb}
use lib.Dec.{T, ltb, eqb}
use lib.ListN.{length, get_or, drop}
use Rattle.controller.specs.Run.{BusCycle}
use Rattle.paper.specs.Kind.{kind_number}
use Rattle.paper.specs.declared.kind.Kind.{Kind}
use Rattle.paper.specs.declared.kind.Kind.TheVariants.{Instruction, DataWrite, StatusRead, DataRead, PinLow, PinHigh}
use Rattle.paper.proofs.Cases.{less}
use Rattle.paper.proofs.Either.{neither}
use Rattle.jobs.specs.Text.{digit}
use Rattle.jobs.proofs.Digits.{hex_is}
use Rattle.recorder.specs.Cycles.{good_cycle}
use Rattle.recorder.specs.Line.{letter_of, cycle_text, kind_by, digit_by, cycle_in, starts_with, line_in}
use Rattle.recorder.specs.Scan.{said, no_line, line_for, short_line, long_line}
use Rattle.recorder.proofs.CycleBytes.{Formed, good_formed, formed_good}
use Rattle.recorder.proofs.Letters.{kind_back, letter_back, letter_some, digit_below, by_back, digit_back, digit_some}
use Rattle.recorder.proofs.Starting.{starts_front, front_starts, starts_at, starts_none}

-- ---- the two forms of a line

pub short_text : (k v : ℕ) → 2 ≤ k → cycle_text (k, v) ≡ letter_of k ∷ 10 ∷ []
unfolding cycle_text
short_text k v h = rw (le-ltb k 2 h)

pub long_text : (k v : ℕ) → k < 2 → cycle_text (k, v) ≡ letter_of k ∷ 32 ∷ digit (v / 16) ∷ digit (v % 16) ∷ 10 ∷ []
unfolding cycle_text
long_text k v h = rw (lt-ltb k 2 h, hex_is v)

pub line_length : (x : BusCycle) → (2 ≤ length (cycle_text x)) × (length (cycle_text x) ≤ 5)
line_length x = less x.0 2
    (λ h. rw (long_text x.0 x.1 h) (omega arith, omega arith))
    (λ h. rw (short_text x.0 x.1 h) (omega arith, omega arith))

-- ---- what is read stands there

and_true : (a : Bool) → (a && true) ≡ a
and_true true = refl
and_true false = refl

and_false : (a : Bool) → (a && false) ≡ false
and_false true = refl
and_false false = refl

and_parts : (a b : Bool) → a && b ≡ true → (a ≡ true) × (b ≡ true)
and_parts true b e = (refl, e)
and_parts false b e = absurd (subst T (sym e) tt)

-- a good cycle, and its line in front of t
pub record Stands (t : List ℕ) : Type 0 where
  pub good : good_cycle (cycle_in t) ≡ true
  pub starts : t ≡ cycle_text (cycle_in t) ++ drop (length (cycle_text (cycle_in t))) t

pub stands : (t : List ℕ) → line_in t ≡ true → Stands t
unfolding line_in
stands t e =
    let p = and_parts (good_cycle (cycle_in t)) (starts_with (cycle_text (cycle_in t)) t) e in
    record { good = p.0; starts = starts_front (cycle_text (cycle_in t)) t p.1 }

-- ---- a good cycle's line is read as that cycle

kind_at : (t : List ℕ) → (cycle_in t).0 ≡ kind_by (get_or t 0 0)
unfolding cycle_in
kind_at t = refl

cycle_short : (t : List ℕ) (k : ℕ) → kind_by (get_or t 0 0) ≡ k → 2 ≤ k → cycle_in t ≡ (k, 0)
unfolding cycle_in
cycle_short t k e h = rw (e, le-ltb k 2 h)

cycle_long : (t : List ℕ) (k : ℕ) → kind_by (get_or t 0 0) ≡ k → k < 2 → cycle_in t ≡ (k, 16 * digit_by (get_or t 2 0) + digit_by (get_or t 3 0))
unfolding cycle_in
cycle_long t k e h = rw (e, lt-ltb k 2 h)

cycle_again : (x : BusCycle) (rest : List ℕ) → Formed x → cycle_in (cycle_text x ++ rest) ≡ x
cycle_again x rest f =
    let n = neither (ltb 5 x.0) (ltb 1 x.0 && ltb 0 x.1) f.cycle in
    let few = ltb-false 5 x.0 n.0 in
    less x.0 2
    (λ h. (
    let b = f.byte in
    let v : 16 * (x.1 / 16) + x.1 % 16 ≡ x.1 = omega arith in
    let high = digit_back (x.1 / 16) (omega arith) in
    let low = digit_back (x.1 % 16) (omega arith) in
    rw (long_text x.0 x.1 h) (cycle_long _ x.0 (kind_back x.0 few) h ∙ rw (high, low) (ap (λ (n : ℕ). (x.0, n)) v))))
    (λ h. (
    let a : ltb 0 x.1 ≡ false = rw (lt-ltb 1 x.0 h) at n.1 in
    let z : 0 ≡ x.1 = (let y = ltb-false 0 x.1 a in omega arith) in
    rw (short_text x.0 x.1 h) (cycle_short _ x.0 (kind_back x.0 few) h ∙ ap (λ (n : ℕ). (x.0, n)) z)))

-- the line of a good cycle, with anything behind it
pub record Again (x : BusCycle) (t : List ℕ) : Type 0 where
  pub there : line_in t ≡ true
  pub cycle : cycle_in t ≡ x

pub line_again : (x : BusCycle) (rest : List ℕ) → good_cycle x ≡ true → Again x (cycle_text x ++ rest)
unfolding line_in
line_again x rest g =
    let e = cycle_again x rest (good_formed x g) in
    record { there = rw (e, g, front_starts (cycle_text x) rest); cycle = e }

-- ---- the code's tests of the bytes

-- a test and its opposite
cond_not : {A : Type 0} (a : Bool) (x y : A) → cond (not a) x y ≡ cond a y x
cond_not true x y = refl
cond_not false x y = refl

cond_both : {A : Type 0} (a b : Bool) (x y : A) → cond (not a || not b) x y ≡ cond (a && b) y x
cond_both true b x y = cond_not b x y
cond_both false b x y = refl

-- where its other bytes are right, a short line stands there exactly if the newline does, and a long one if the space and the newline do
two : (t : List ℕ) (a b : ℕ) → a ≢ 0 → b ≢ 0 → get_or t 0 0 ≡ a → starts_with (a ∷ b ∷ []) t ≡ eqb (get_or t 1 0) b
two t a b h k e =
    starts_at t 0 a (b ∷ []) h
    ∙ rw (eq-eqb (get_or t 0 0) a e, starts_at t 1 b [] k, starts_none, and_true) refl

five : (t : List ℕ) (a b c d e : ℕ) → a ≢ 0 → b ≢ 0 → c ≢ 0 → d ≢ 0 → e ≢ 0 → get_or t 0 0 ≡ a → get_or t 2 0 ≡ c → get_or t 3 0 ≡ d
    → starts_with (a ∷ b ∷ c ∷ d ∷ e ∷ []) t ≡ (eqb (get_or t 1 0) b && eqb (get_or t 4 0) e)
five t a b c d e ha hb hc hd he ea ec ed =
    starts_at t 0 a (b ∷ c ∷ d ∷ e ∷ []) ha
    ∙ rw (
      eq-eqb (get_or t 0 0) a ea,
      starts_at t 1 b (c ∷ d ∷ e ∷ []) hb,
      starts_at t 2 c (d ∷ e ∷ []) hc,
      eq-eqb (get_or t 2 0) c ec,
      starts_at t 3 d (e ∷ []) hd,
      eq-eqb (get_or t 3 0) d ed,
      starts_at t 4 e [] he,
      starts_none,
      and_true,
    )
    refl

module _ (t : List ℕ) where
  abbrev k : ℕ
  k = kind_by (get_or t 0 0)

  abbrev v : ℕ
  v = 16 * digit_by (get_or t 2 0) + digit_by (get_or t 3 0)

  pub line_none : 5 < k → no_line ≡ line_for t
  unfolding line_for line_in cycle_in good_cycle
  line_none h = rw (lt-ltb 5 k h) refl

  pub line_short : 1 < k → k ≤ 5 → short_line k (get_or t 1 0) ≡ line_for t
  unfolding line_for line_in short_line
  line_short h few =
      let g : good_cycle (k, 0) ≡ true = formed_good (k, 0) (record { cycle = rw (le-ltb 5 k few, lt-ltb 1 k h) refl; byte = omega arith }) in
      let s = two t (letter_of k) 10 (letter_some k) (omega arith) (sym (letter_back (get_or t 0 0) few)) in
      rw (cycle_short t k refl h, g, short_text k 0 h, s) (cond_not (eqb (get_or t 1 0) 10) no_line (said k 0 2))

  -- what counts 256 is no part of a byte, so no such line is good
  value_large : k ≤ 1 → 256 ≤ v → line_in t ≡ false
  unfolding line_in good_cycle
  value_large h l =
      let few : k < 2 = omega arith in
      rw (cycle_long t k refl few, le-ltb v 256 l, and_false) refl

  value_small : k ≤ 1 → v < 256 → line_in t ≡ (eqb (get_or t 1 0) 32 && eqb (get_or t 4 0) 10)
  unfolding line_in
  value_small h l =
      let high = digit_below (get_or t 2 0) (omega arith) in
      let low = digit_below (get_or t 3 0) (omega arith) in
      let few : k < 2 = omega arith in
      let most : k ≤ 5 = omega arith in
      let a : v / 16 ≡ digit_by (get_or t 2 0) = omega arith in
      let b : v % 16 ≡ digit_by (get_or t 3 0) = omega arith in
      let g : good_cycle (k, v) ≡ true = formed_good (k, v) (record { cycle = rw (le-ltb 5 k most, le-ltb 1 k h) refl; byte = l }) in
      let c : digit (v / 16) ≡ get_or t 2 0 = ap digit a ∙ by_back (get_or t 2 0) high in
      let d : digit (v % 16) ≡ get_or t 3 0 = ap digit b ∙ by_back (get_or t 3 0) low in
      let s = five t (letter_of k) 32 (digit (v / 16)) (digit (v % 16)) 10 (letter_some k) (omega arith) (digit_some (v / 16)) (digit_some (v % 16)) (omega arith)
      (sym (letter_back (get_or t 0 0) most)) (sym c) (sym d) in
      rw (cycle_long t k refl few, g, long_text k v few, s) refl

  pub line_long : k ≤ 1 → long_line k (get_or t 1 0) v (get_or t 4 0) ≡ line_for t
  unfolding line_for long_line
  line_long h =
      let few : k < 2 = omega arith in
      less 255 v
      (λ l. rw (value_large h l, lt-ltb 255 v l) refl)
      (λ l. (
      let small : v < 256 = omega arith in
      rw (value_small h small, cycle_long t k refl few, long_text k v few, le-ltb 255 v l) (cond_both (eqb (get_or t 1 0) 32) (eqb (get_or t 4 0) 10) no_line (said k v 5))))

-- ---- kinds with a value, and without

pub with_value : (k : Kind) → (k ≡ Instruction) ⊎ (k ≡ DataWrite) → kind_number k ≤ 1
with_value k h = ⊎_elim (λ e. rw e (omega arith)) (λ e. rw e (omega arith)) h

pub without_value : (k : Kind) → (k ≡ Instruction → ⊥) → (k ≡ DataWrite → ⊥) → (1 < kind_number k) × (kind_number k ≤ 5)
without_value Instruction h g = absurd (h refl)
without_value DataWrite h g = absurd (g refl)
without_value StatusRead h g = (omega arith, omega arith)
without_value DataRead h g = (omega arith, omega arith)
without_value PinLow h g = (omega arith, omega arith)
without_value PinHigh h g = (omega arith, omega arith)
