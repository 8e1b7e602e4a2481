-- `planner::picture::Pair::scan` meets its contract: before each page and each column, nothing is found yet, and the first difference from
-- there on is the whole answer.
-- Assumes nothing.
use Prim.Native.Nat.{◌+◌, ◌-◌}
use mathlib.Core.Path.{◌≡◌}
use Rattle.planner.specs.Pair.{apart}
use Rattle.planner.specs.First.{first_on, first_from}
use Rattle.std.specs.Prelude.{None}
use Rattle.planner.proofs.picture.Pair.scan.Given as goal

abbrev pub invariant-loop-column : goal.invariant-loop-column
invariant-loop-column l =
    record {
      none_yet : l.found ≡ None;
      left : first_on (apart l.self l.page) l.page l.column (l.self.wanted.width - l.column) (first_from l.self.wanted.width l.self.recorded.now l.self.wanted.bytes.now (l.page + 1) (9 - (l.page + 1)))
          ≡ first_from l.self.wanted.width l.self.recorded.now l.self.wanted.bytes.now 0 9;
    }

abbrev pub decreases-loop-column : goal.decreases-loop-column
decreases-loop-column l =
    l.self.wanted.width - l.column

abbrev pub invariant-pages : goal.invariant-pages
invariant-pages l =
    record {
      none_yet : l.found ≡ None;
      left : first_from l.self.wanted.width l.self.recorded.now l.self.wanted.bytes.now l.page (9 - l.page) ≡ first_from l.self.wanted.width l.self.recorded.now l.self.wanted.bytes.now 0 9;
    }
