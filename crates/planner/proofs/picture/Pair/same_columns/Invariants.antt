-- `planner::picture::Pair::same_columns` meets its contract: before each column, all so far are the same, and the rest will tell.
-- Assumes nothing.
use Prim.Native.Nat.{◌-◌}
use mathlib.Core.Path.{◌≡◌}
use mathlib.Core.Bool.{◌&&◌}
use Rattle.planner.specs.Pair.{apart}
use Rattle.streams.proofs.Equal.{all_equal}
use Rattle.planner.proofs.picture.Pair.same_columns.Given as goal

abbrev pub invariant-loop-column : goal.invariant-loop-column
invariant-loop-column l =
    (l.same && all_equal (apart l.self l.page) l.column (l.to - l.column)) ≡ all_equal (apart l.self l.page) l.from (l.to - l.from)
