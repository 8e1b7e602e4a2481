-- `planner::picture::Picture::redraw_pages` meets its contract: before each page, the pages left, put now, give all nine.
-- Assumes nothing.
use Prim.Native.Nat.{◌-◌}
use mathlib.Core.Option.{none}
use Rattle.streams.specs.Stretch.{emit}
use Rattle.streams.specs.Redraw.{whole_pages}
use Rattle.planner.proofs.Writing.{Going}
use Rattle.planner.proofs.picture.Picture.redraw_pages.Given as goal

abbrev pub invariant-loop-page : goal.invariant-loop-page
invariant-loop-page l =
    Going (emit none (whole_pages l.self.width l.self.bytes.now l.page (9 - l.page))) (emit none (whole_pages l.self.width l.self.bytes.now 0 9)) l.initial.out l.initial.kinds l.from l.out l.kinds l.at
