-- Frame and power state follow document 01 in either command set: they do not look at what stands beside the sheet's registers.
-- Assumes nothing.
use Prim.Native.Nat.{ℕ}
use mathlib.Core.Path.{◌≡◌, refl}
use mathlib.Core.Bool.{false}
use mathlib.Core.List.{List}
use Rattle.std.specs.Prelude.{Result}
use Rattle.paper.specs.declared.refusal.Refusal.{Refusal}
use Rattle.paper.specs.declared.sheet.Sheet.{Sheet}
use Rattle.registers.specs.Registers.{with_beside, outside}
use Rattle.registers.specs.declared.Beside.{Beside}
use Rattle.registers.specs.declared.Registers.{Registers}
use Rattle.glass.specs.Dot.{dot_at, lit_of}
use Rattle.glass.specs.Frame.{strip_byte, frame_of, refusal, IsShown}
use Rattle.glass.specs.Power.{power_of, IsPower}
use Rattle.glass.specs.declared.power.PowerState.{PowerState}
use Rattle.glass.proofs.Promised.{shown_one, power_one}

module _ (c : Sheet) (r : Registers) (x : Beside) where
  pub frame_as_before : (m : List ℕ) → frame_of c (with_beside r x) m ≡ frame_of c r m
  unfolding frame_of strip_byte lit_of dot_at
  frame_as_before m = refl

  pub power_as_before : power_of (with_beside r x) ≡ power_of r
  unfolding power_of
  power_as_before = refl

  -- so where both are in range the calls answer alike, and leave the same frame
  module _ (i : outside c r ≡ false) (j : outside c (with_beside r x) ≡ false) where
    pub shown_as_before : {m frame left right : List ℕ} {a b : Result (Unit {0}) Refusal} → IsShown c (with_beside r x) m frame a left → IsShown c r m frame b right → (a ≡ b) × (left ≡ right)
    unfolding refusal
    shown_as_before {m} f g = shown_one (record { tells = rw i (rw j at f.tells); leaves = rw i (rw (j, frame_as_before m) at f.leaves) }) g

    pub powered_as_before : {a b : Result PowerState Refusal} → IsPower c (with_beside r x) a → IsPower c r b → a ≡ b
    powered_as_before f g = power_one (record { tells = rw i (rw (j, power_as_before) at f.tells) }) g
