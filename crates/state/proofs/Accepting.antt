-- Which states are not refused: bytes that stand for registers in range. What is packed of such registers is one of them.
-- Assumes nothing.
use Prim.Native.Nat.{ℕ}
use mathlib.Core.Path.{◌≡◌, ◌∙◌, refl, ap, sym, subst}
use mathlib.Core.Logic.{◌≢◌}
use mathlib.Core.Bool.{Bool, false}
use mathlib.Core.Option.{Option, none, some}
use mathlib.Core.List.{List}
use native.Mathlib.Omega.{arith}
use Rattle.paper.specs.Refusal.{wrong_size, out_of_range}
use Rattle.paper.specs.Answers.{left_by}
use Rattle.paper.specs.declared.sheet.Sheet.{Sheet}
use Rattle.paper.proofs.Exactly.{nowhere}
use Rattle.registers.specs.Registers.{outside}
use Rattle.registers.specs.declared.Registers.{Registers}
use Rattle.state.specs.Packed.{packed, unpacked}
use Rattle.state.specs.Unfit.{unfit, unfit_number}
use Rattle.state.proofs.Packing.{registers_again, packed_fit}

-- an unfit state is refused with a number
pub unfit_some : (wrong : Bool) → unfit_number wrong ≢ 0
unfit_some wrong = nowhere wrong wrong_size out_of_range 0 (λ e. omega arith) (λ e. omega arith)

-- the bytes stand for registers, and these are in range
abbrev pub Accepted : Sheet → List ℕ → Type 0
Accepted k s = (unfit s ≡ false) × (outside k (unpacked s) ≡ false)

pub packed_accepted : (k : Sheet) (r : Registers) → outside k r ≡ false → Accepted k (packed r)
packed_accepted k r h = (packed_fit r, ap (outside k) (registers_again r) ∙ h)

-- what a call leaves in a state: that of the registers after it, or what stood there
pub accepted_left : (k : Sheet) (s : List ℕ) (x : Option Registers) → Accepted k s → ((r : Registers) → x ≡ some r → outside k r ≡ false)
    → {s' : List ℕ} → s' ≡ left_by packed s x → Accepted k s'
accepted_left k s none a h e = subst (Accepted k) (sym e) a
accepted_left k s (some r) a h e = subst (Accepted k) (sym e) (packed_accepted k r (h r refl))
