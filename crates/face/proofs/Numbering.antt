-- Sheet and values name the instructions one for one: every instruction is named by its number and value, and whatever a number
-- and a value name has just that number and value.
-- Assumes nothing.
use Prim.Native.Nat.{ℕ, suc, ◌≤◌}
use mathlib.Core.Path.{◌≡◌, ◌∙◌, refl, ap, sym, subst}
use mathlib.Core.Bool.{Bool, true, false, cond, ◌&&◌, ◌||◌}
use mathlib.Core.Option.{some}
use native.Mathlib.Omega.{arith}
use lib.Dec.{ltb, eqb}
use borrow.Author.Tests.{ltb-false, eqb-true, eqb-false}
use Rattle.paper.proofs.Cases.{split}
use Rattle.paper.proofs.Either.{or_left, or_right}
use Rattle.instructions.specs.declared.instruction.Instruction.{Instruction}
use Rattle.instructions.specs.declared.instruction.Instruction.TheVariants.{ColumnLow, ColumnHigh, Resistor, Power, StartLine, ContrastNext, ContrastValue, Adc, Bias, Entire, Reverse, IndicatorOff, IndicatorOn, IndicatorValue, Display, Page, Shl, ModifyReadOn, ModifyReadOff, Reset, Nop}
use Rattle.state.specs.Packed.{flag_byte}
use Rattle.face.specs.Bytes.{number_of, value_of, numbered, takes_flag, takes_none, unnamed, by_number, named}
use Rattle.state.proofs.Packing.{flag_kept}

pub instruction_again : (i : Instruction) → named (number_of i) (value_of i) ≡ some i
unfolding named unnamed by_number
instruction_again (ColumnLow v) = refl
instruction_again (ColumnHigh v) = refl
instruction_again (Resistor v) = refl
instruction_again (Power v) = refl
instruction_again (StartLine v) = refl
instruction_again ContrastNext = refl
instruction_again (ContrastValue v) = refl
instruction_again (Adc true) = refl
instruction_again (Adc false) = refl
instruction_again (Bias true) = refl
instruction_again (Bias false) = refl
instruction_again (Entire true) = refl
instruction_again (Entire false) = refl
instruction_again (Reverse true) = refl
instruction_again (Reverse false) = refl
instruction_again IndicatorOff = refl
instruction_again IndicatorOn = refl
instruction_again (IndicatorValue v) = refl
instruction_again (Display true) = refl
instruction_again (Display false) = refl
instruction_again (Page v) = refl
instruction_again (Shl true) = refl
instruction_again (Shl false) = refl
instruction_again ModifyReadOn = refl
instruction_again ModifyReadOff = refl
instruction_again Reset = refl
instruction_again Nop = refl

-- ---- and back

-- the numbers below k are done: n is k, or k is done too
pub next : {I : Type 0} (P : I → Type 0) (k n : ℕ) {x y : I} → k ≤ n → (n ≡ k → P x) → (suc k ≤ n → P y) → P (cond (eqb n k) x y)
next P k n {x} {y} l f g = split (eqb n k)
    (λ t. subst (λ (b : Bool). P (cond b x y)) (sym t) (f (eqb-true n k t)))
    (λ t. let h = eqb-false n k t in subst (λ (b : Bool). P (cond b x y)) (sym t) (g (omega arith)))

pub and_true : (a b : Bool) → a ≡ true → (a && b) ≡ false → b ≡ false
and_true true b e h = h
and_true false b e h = absurd (subst (λ (t : Bool). cond t ⊥ (Unit {0})) e tt)

module _ (n v : ℕ) (e : unnamed n v ≡ false) where
  last : n ≤ 20
  unfolding unnamed
  last = ltb-false 20 n (or_left (ltb 20 n) (takes_flag n && ltb 1 v) (or_left (ltb 20 n || (takes_flag n && ltb 1 v)) (takes_none n && ltb 0 v) e))

  flag_most : takes_flag n ≡ true → v ≤ 1
  unfolding unnamed
  flag_most t =
      ltb-false 1 v (and_true (takes_flag n) (ltb 1 v) t
      (or_right (ltb 20 n) (takes_flag n && ltb 1 v) (or_left (ltb 20 n || (takes_flag n && ltb 1 v)) (takes_none n && ltb 0 v) e)))

  bare_most : takes_none n ≡ true → v ≤ 0
  unfolding unnamed
  bare_most t =
      ltb-false 0 v (and_true (takes_none n) (ltb 0 v) t (or_right (ltb 20 n || (takes_flag n && ltb 1 v)) (takes_none n && ltb 0 v) e))

  value : (k : ℕ) → n ≡ k → ◌≡◌ {A = ℕ × ℕ} (k, v) (n, v)
  value k q = ap (λ (x : ℕ). (x, v)) (sym q)

  flag : (k : ℕ) → takes_flag k ≡ true → n ≡ k → ◌≡◌ {A = ℕ × ℕ} (k, flag_byte (eqb v 1)) (n, v)
  flag k t q = ap (λ (x : ℕ). (k, x)) (flag_kept v (flag_most (ap takes_flag q ∙ t))) ∙ value k q

  bare : (k : ℕ) → takes_none k ≡ true → n ≡ k → ◌≡◌ {A = ℕ × ℕ} (k, 0) (n, v)
  bare k t q = let z = bare_most (ap takes_none q ∙ t) in ap (λ (x : ℕ). (k, x)) (let y : 0 ≡ v = omega arith in y) ∙ value k q

  pub number_again : numbered (by_number n v) ≡ (n, v)
  unfolding by_number
  number_again =
      let P : Instruction → Type 0 = λ i. numbered i ≡ (n, v) in
      next P 0 n (omega arith) (value 0)
      (λ l. next P 1 n l (value 1)
      (λ l. next P 2 n l (value 2)
      (λ l. next P 3 n l (value 3)
      (λ l. next P 4 n l (value 4)
      (λ l. next P 5 n l (bare 5 refl)
      (λ l. next P 6 n l (value 6)
      (λ l. next P 7 n l (flag 7 refl)
      (λ l. next P 8 n l (flag 8 refl)
      (λ l. next P 9 n l (flag 9 refl)
      (λ l. next P 10 n l (flag 10 refl)
      (λ l. next P 11 n l (bare 11 refl)
      (λ l. next P 12 n l (bare 12 refl)
      (λ l. next P 13 n l (value 13)
      (λ l. next P 14 n l (flag 14 refl)
      (λ l. next P 15 n l (value 15)
      (λ l. next P 16 n l (flag 16 refl)
      (λ l. next P 17 n l (bare 17 refl)
      (λ l. next P 18 n l (bare 18 refl)
      (λ l. next P 19 n l (bare 19 refl)
      (λ l. bare 20 refl (let h = last in omega arith)))))))))))))))))))))
