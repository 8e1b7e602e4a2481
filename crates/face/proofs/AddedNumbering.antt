-- Numbers and values name the new set's instructions one for one, as `Numbering` has it of the old set's.
-- Assumes nothing.
use Prim.Native.Nat.{ℕ, ◌%◌, ◌≤◌}
use mathlib.Core.Path.{◌≡◌, ◌∙◌, refl, ap, sym}
use mathlib.Core.Bool.{true, false, ◌&&◌}
use mathlib.Core.Option.{some}
use native.Mathlib.Omega.{arith}
use lib.Dec.{ltb, eqb}
use borrow.Author.Tests.{ltb-false}
use Rattle.paper.proofs.Either.{or_left, or_right}
use Rattle.instructions.specs.declared.added.Added.{Added}
use Rattle.instructions.specs.declared.added.Added.TheVariants.{Com0Next, Com0Value, DutyNext, DutyValue, InversionNext, InversionValue, FrameInversion}
use Rattle.face.specs.Added.{added_number, added_value, added_numbered, unnamed_added, by_added_number, named_added}
use Rattle.face.proofs.Numbering.{next, and_true}

pub added_again_lem : (i : Added) → named_added (added_number i) (added_value i) ≡ some i
unfolding named_added unnamed_added by_added_number
added_again_lem Com0Next = refl
added_again_lem (Com0Value v) = refl
added_again_lem DutyNext = refl
added_again_lem (DutyValue v) = refl
added_again_lem InversionNext = refl
added_again_lem (InversionValue v) = refl
added_again_lem FrameInversion = refl

module _ (n v : ℕ) (e : unnamed_added n v ≡ false) where
  last : n ≤ 6
  unfolding unnamed_added
  last = ltb-false 6 n (or_left (ltb 6 n) (eqb (n % 2) 0 && ltb 0 v) e)

  value : (k : ℕ) → n ≡ k → ◌≡◌ {A = ℕ × ℕ} (k, v) (n, v)
  value k q = ap (λ (x : ℕ). (x, v)) (sym q)

  bare : (k : ℕ) → eqb (k % 2) 0 ≡ true → n ≡ k → ◌≡◌ {A = ℕ × ℕ} (k, 0) (n, v)
  unfolding unnamed_added
  bare k t q =
      let z = ltb-false 0 v (and_true (eqb (n % 2) 0) (ltb 0 v) (ap (λ (x : ℕ). eqb (x % 2) 0) q ∙ t) (or_right (ltb 6 n) (eqb (n % 2) 0 && ltb 0 v) e)) in
      ap (λ (x : ℕ). (k, x)) (let y : 0 ≡ v = omega arith in y) ∙ value k q

  pub added_number_again : added_numbered (by_added_number n v) ≡ (n, v)
  unfolding by_added_number
  added_number_again =
      let P : Added → Type 0 = λ i. added_numbered i ≡ (n, v) in
      next P 0 n (omega arith) (bare 0 refl)
      (λ l. next P 1 n l (value 1)
      (λ l. next P 2 n l (bare 2 refl)
      (λ l. next P 3 n l (value 3)
      (λ l. next P 4 n l (bare 4 refl)
      (λ l. next P 5 n l (value 5)
      (λ l. bare 6 refl (let h = last in omega arith)))))))
