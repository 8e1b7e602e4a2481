-- What document 01 wants shut out: the same answer for all. A status read tells registers apart that differ in ADC alone.
-- Assumes nothing.
use Prim.Native.Nat.{ℕ, ◌*◌}
use mathlib.Core.Path.{◌≡◌, ◌∙◌, refl, ap, sym}
use mathlib.Core.Logic.{◌≢◌}
use mathlib.Core.Bool.{true, false}
use mathlib.Core.Option.{Option, some}
use mathlib.Core.List.{List}
use native.Mathlib.Omega.{arith}
use lib.ListN.{length}
use Rattle.std.specs.Prelude.{Result}
use Rattle.paper.specs.Sheet.{Sensible}
use Rattle.paper.specs.declared.refusal.Refusal.{Refusal}
use Rattle.paper.specs.declared.sheet.Sheet.{Sheet}
use Rattle.instructions.specs.declared.added.CommandSet.TheVariants.{Old}
use Rattle.registers.specs.Registers.{outside, with_adc, start}
use Rattle.registers.specs.declared.Registers.{Registers}
use Rattle.registers.proofs.InRange.{ranged, start_beside_lem, start_inside}
use Rattle.controller.specs.Cycle.{outcome, status, Cycled}
use Rattle.controller.specs.State.{state, Restartable}
use Rattle.controller.specs.declared.cycle.Answer.{Answer}
use Rattle.controller.proofs.Spelled.{status_answered}

module _ (k : Sheet) where
  -- a status read of a usable chip answers the status byte of its registers
  pub status_told : (r : Registers) (m : List ℕ) (a : Result Answer Refusal) (left : List ℕ) → Restartable k (state r m) → Cycled k r m 2 0 a left
      → (outcome a).byte ≡ some (status r)
  status_told r m a left h f = ap (λ o. o.byte) (f.tells ∙ status_answered k (state r m) h.long h.ranged)

  usable : (r : Registers) (m : List ℕ) → length m ≡ 9 * k.width → outside k r ≡ false → r.pin_low ≡ false → r.beside.set ≡ Old → Restartable k (state r m)
  usable r m long e high old = record { long = long; ranged = e; high = high; old = old }

  pub answers_differ : Sensible k → (m : List ℕ) (a b : Result Answer Refusal) (left right : List ℕ) → length m ≡ 9 * k.width
      → Cycled k (start k 0 false) m 2 0 a left → Cycled k (with_adc (start k 0 false) true) m 2 0 b right → a ≢ b
  unfolding status
  answers_differ g m a b left right long f h e =
      let p = status_told (start k 0 false) m a left (usable _ m long (start_inside k g Old 0 false) refl refl) f in
      let q = status_told (with_adc (start k 0 false) true) m b right (usable _ m long (ranged k (with_adc (start k 0 false) true) (omega (arith, g.wide, g.first)) (start_beside_lem Old)) refl refl) h in
      let s : ◌≡◌ {A = Option ℕ} (some 96) (some 32) = sym p ∙ ap (λ x. (outcome x).byte) e ∙ q in
      let z : ◌≡◌ {A = ℕ} 96 32 = cc in
      omega arith
