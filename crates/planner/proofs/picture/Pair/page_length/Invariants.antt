-- `planner::picture::Pair::page_length` meets its contract: an equal page has no work; on any other, before each column, the bytes so far are
-- counted, and so is the gap; at the end the page byte is added to any bytes.
-- Assumes nothing.
use Prim.Native.Nat.{◌+◌, ◌-◌, ◌≤◌}
use Rattle.planner.specs.Pair.{apart}
use Rattle.streams.specs.Tally.{Counted}
use Rattle.planner.proofs.picture.Pair.page_length.Given as goal

abbrev pub invariant-loop-column : goal.invariant-loop-column
invariant-loop-column l =
    (l.tally.anew ≤ l.column + 2) × Counted (apart l.self l.page) l.self.wanted.width l.tally.bytes (l.column + 2 - l.tally.anew) l.column
