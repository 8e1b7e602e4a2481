-- `planner::picture::Pair::past_blocks` meets its contract: before each block, none of the columns so far differs.
-- Assumes nothing.
use Prim.Native.Nat.{◌-◌}
use Rattle.planner.specs.Pair.{apart}
use Rattle.planner.specs.Equal.{Past}
use Rattle.planner.proofs.picture.Pair.past_blocks.Given as goal

abbrev pub invariant-loop-column : goal.invariant-loop-column
invariant-loop-column l =
    Past (apart l.self l.page) l.self.wanted.width l.from l.column

abbrev pub decreases-loop-column : goal.decreases-loop-column
decreases-loop-column l =
    l.self.wanted.width - l.column
