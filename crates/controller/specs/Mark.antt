-- Order 2's sentence on the mark of a data read, for readers: fresh exactly when the last cycle that was a data read, a data write, a page
-- or column instruction, E0, EE, E2 or pin low was a data read. `proofs/Marks.antt` shows that the registers' mark is this.
-- Assumes nothing.
use Rattle.std.specs.Prelude.{Bool, true, false, cond, List, [], ◌∷◌, eqb}
use Rattle.std.proofs.Math.Option.{Option, none, some}
use Rattle.paper.specs.declared.sheet.Sheet.{Sheet}
use Rattle.instructions.specs.Read.{read_of}
use Rattle.instructions.specs.declared.added.CommandSet.{CommandSet}
use Rattle.instructions.specs.declared.added.CommandSet.TheVariants.{Old, New}
use Rattle.instructions.specs.declared.instruction.Instruction.{Instruction}
use Rattle.controller.specs.Execute.{ends_reading}
use Rattle.controller.specs.Run.{BusCycle}
use Rattle.controller.specs.State.{State, step, number}

-- what a cycle counts as: a data read as true, the others of the sentence's list as false, and what is not on the list as none

-- an instruction counts if it is a page or column instruction, E0, EE or E2: as it is read, so that an awaited second byte does not count
abbrev pub instruction_counts : Option Instruction → Option Bool
instruction_counts (some i) = cond (ends_reading i) (some false) none
instruction_counts none = none

-- no instruction of the new command set is on the list
abbrev pub counts_in : Sheet → State → BusCycle → CommandSet → Option Bool
counts_in k s x Old = instruction_counts (read_of k s.registers.awaited x.1).value
counts_in k s x New = none

-- by its kind; a status read and pin high don't count
unfoldable pub kind_counts : Sheet → State → BusCycle → Option Bool
kind_counts k s x =
    cond (eqb x.0 0) (counts_in k s x s.registers.beside.set)
    (cond (eqb x.0 1) (some false)
    (cond (eqb x.0 2) none
    (cond (eqb x.0 3) (some true)
    (cond (eqb x.0 4) (some false)
    none))))

-- and a refused cycle does not count
unfoldable pub counted : Sheet → State → BusCycle → Option Bool
counted k s x = cond (eqb (number k s x) 0) (kind_counts k s x) none

-- what each cycle of a list counts as, from the chip that the one before left
abbrev pub all_counted : Sheet → State → List BusCycle → List (Option Bool)
all_counted k s [] = []
all_counted k s (x ∷ xs) = counted k s x ∷ all_counted k (step k s x) xs

-- the last one that counts, or `first` where none does
abbrev pub last_counted : Bool → List (Option Bool) → Bool
last_counted first [] = first
last_counted first (none ∷ xs) = last_counted first xs
last_counted first (some b ∷ xs) = last_counted b xs
