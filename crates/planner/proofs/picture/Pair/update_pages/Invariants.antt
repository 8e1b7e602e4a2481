-- `planner::picture::Pair::update_pages` meets its contract: before each page, what the pages left send, put now, gives the whole update.
-- Assumes nothing.
use Prim.Native.Nat.{◌-◌}
use Rattle.streams.specs.Walk.{walk_pages}
use Rattle.planner.proofs.Writing.{Going}
use Rattle.planner.proofs.picture.Pair.update_pages.Given as goal

abbrev pub invariant-loop-page : goal.invariant-loop-page
invariant-loop-page l =
    Going (walk_pages l.self.wanted.width l.self.recorded.now l.self.wanted.bytes.now l.page (9 - l.page)) (walk_pages l.self.wanted.width l.self.recorded.now l.self.wanted.bytes.now 0 9) l.initial.out l.initial.kinds 0 l.out l.kinds l.at
