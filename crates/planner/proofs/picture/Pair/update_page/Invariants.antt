-- `planner::picture::Pair::update_page` meets its contract: before each column, what the walk from there still sends, put now, gives the
-- page's group; equal columns send nothing.
-- Assumes nothing.
use Prim.Native.Nat.{◌-◌, ◌≤◌}
use mathlib.Core.Bool.{false}
use Rattle.planner.specs.Pair.{apart}
use Rattle.streams.specs.Walk.{walk}
use Rattle.planner.proofs.Writing.{Going}
use Rattle.planner.proofs.picture.Pair.update_page.Given as goal

abbrev pub invariant-loop-column : goal.invariant-loop-column
invariant-loop-column l =
    (l.pen.next ≤ l.self.wanted.width)
    × Going (walk l.self.wanted.width l.self.wanted.bytes.now l.page (apart l.self l.page) l.pen.sent l.pen.next l.column (l.self.wanted.width - l.column))
    (walk l.self.wanted.width l.self.wanted.bytes.now l.page (apart l.self l.page) false 0 0 l.self.wanted.width) l.initial.out l.initial.kinds l.at l.out l.kinds l.pen.at

abbrev pub decreases-loop-column : goal.decreases-loop-column
decreases-loop-column l =
    l.self.wanted.width - l.column
