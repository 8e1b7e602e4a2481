-- Registers in their ranges and pictures of 1,188 bytes always get their frame: neither 1 nor 2 is a refusal's number then.
-- Assumes nothing.
use mathlib.Core.Path.{◌≡◌, refl, sym, subst, ◌∙◌}
use mathlib.Core.Logic.{⊎_elim}
use mathlib.Core.Bool.{false}
use mathlib.Core.List.{List}
use Prim.Native.Nat.{ℕ}
use lib.Dec.{T}
use lib.ListN.{length}
use Rattle.std.specs.Prelude.{Result, Ok, Err}
use Rattle.paper.specs.declared.refusal.Refusal.{Refusal}
use Rattle.paper.specs.Sheet.{sheet0713}
use Rattle.registers.specs.Registers.{outside}
use Rattle.registers.specs.declared.Registers.{Registers}
use Rattle.glass.specs.Frame.{frame_of, IsShown}
use Rattle.glass.proofs.Promised.{shown_number, shown_drawn}

module _ {r : Registers} {m out left : List ℕ} (g : outside sheet0713 r ≡ false) (m-long : length m ≡ 1188) (out_long : length out ≡ 1188) where
  by_answer : (a : Result (Unit {0}) Refusal) → IsShown sheet0713 r m out a left → (a ≡ Ok tt) × (left ≡ frame_of sheet0713 r m)
  by_answer (Ok x) f = (refl, shown_drawn f)
  by_answer (Err e) f = absurd
      (⊎_elim
      (λ p. ⊎_elim (λ h. h m-long) (λ h. h out_long) p.1)
      (λ p. subst T (sym p.1.1 ∙ g) tt)
      (shown_number f))

  pub frame_given : {a : Result (Unit {0}) Refusal} → IsShown sheet0713 r m out a left → (a ≡ Ok tt) × (left ≡ frame_of sheet0713 r m)
  frame_given {a} f = by_answer a f
