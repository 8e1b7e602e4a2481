-- The switch between the command sets.
-- Assumes nothing.
use Rattle.std.specs.Prelude.{◌≡◌, cond, not, Result}
use Rattle.paper.specs.Refusal.{out_of_range, awaited_at_switch}
use Rattle.paper.specs.Told.{Told, given, refused, told}
use Rattle.paper.specs.declared.refusal.Refusal.{Refusal}
use Rattle.paper.specs.declared.sheet.Sheet.{Sheet}
use Rattle.instructions.specs.Read.{nothing_awaited}
use Rattle.instructions.specs.declared.added.CommandSet.{CommandSet}
use Rattle.registers.specs.Registers.{with_set, outside}
use Rattle.registers.specs.declared.Registers.{Registers}

-- the set, and nothing else: refused with 2, then with 13 where a byte is awaited, whichever set it is and whichever is wanted
unfoldable pub switched : Sheet → Registers → CommandSet → Told Registers
switched k r set =
    cond (outside k r) (refused out_of_range)
    (cond (not (nothing_awaited r.awaited)) (refused awaited_at_switch)
    (given (with_set r set)))

-- what a switch promises
pub record IsSwitched (k : Sheet) (r : Registers) (set : CommandSet) (a : Result Registers Refusal) : Type 0 where
  pub tells : told a ≡ switched k r set
