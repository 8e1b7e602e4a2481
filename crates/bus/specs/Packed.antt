-- What a list of cycles on the packed state promises in C.
-- Assumes nothing.
use Rattle.std.specs.Prelude.{ℕ, ◌*◌, ◌≡◌, not, List, length, eqb, Result}
use Rattle.paper.specs.Answers.{If, left_by}
use Rattle.paper.specs.Told.{told, refused}
use Rattle.paper.specs.Sheet.{sheet0713}
use Rattle.paper.specs.declared.refusal.Refusal.{Refusal}
use Rattle.registers.specs.declared.Registers.{Registers}
use Rattle.state.specs.Packed.{packed, unpacked}
use Rattle.state.specs.Unfit.{unfit, unfit_number}
use Rattle.bus.specs.Run.{Outputs, IsRun}

-- a run on the registers that the state stands for; an unfit state is refused with 2, but with 1 where the memory's size is wrong
abbrev pub RunOn : List ℕ → List ℕ → List ℕ → Outputs → Result Registers Refusal → List ℕ → Outputs → Type 0
RunOn state memory cycles o a memory' o' =
    If (unfit state) ((told a ≡ refused (unfit_number (not (eqb (length memory) (9 * sheet0713.width))))) × (memory' ≡ memory) × (o' ≡ o))
    (IsRun sheet0713 (unpacked state) memory cycles o a memory' o')

-- the state is that of the registers after the cycles; refused with 1, 2, 5 in this order
pub record RunOut (state memory cycles : List ℕ) (o : Outputs) (state' memory' : List ℕ) (o' : Outputs) (r : ℕ) : Type 0 where
  pub answer : Result Registers Refusal
  pub promised : RunOn state memory cycles o answer memory' o'
  pub number : r ≡ (told answer).number
  pub left : state' ≡ left_by packed state (told answer).value
