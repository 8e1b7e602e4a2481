-- `planner::picture::Pair::past_columns` meets its contract: before each column, none of those so far differs.
-- Assumes nothing.
use Rattle.planner.specs.Pair.{apart}
use Rattle.planner.specs.Equal.{Past}
use Rattle.planner.proofs.picture.Pair.past_columns.Given as goal

abbrev pub invariant-loop-column : goal.invariant-loop-column
invariant-loop-column l =
    Past (apart l.self l.page) l.self.wanted.width l.from l.column
