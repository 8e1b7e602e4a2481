-- How many bytes the update has.
-- Assumes nothing.
use Rattle.std.specs.Prelude.{ℕ, ◌≡◌, cond, ◌||◌, List, Result}
use Rattle.paper.specs.Refusal.{wrong_size}
use Rattle.paper.specs.Told.{given, refused, told}
use Rattle.paper.specs.declared.refusal.Refusal.{Refusal}
use Rattle.streams.specs.Length.{update_length}
use Rattle.planner.specs.Pictures.{misfit}

-- what update_length promises: the formula, or 1
pub record IsLength (W : ℕ) (recorded wanted : List ℕ) (a : Result ℕ Refusal) : Type 0 where
  pub tells : told a ≡ cond (misfit W recorded || misfit W wanted) (refused wrong_size) (given (update_length W recorded wanted))
