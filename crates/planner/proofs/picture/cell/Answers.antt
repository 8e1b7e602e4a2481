-- `planner::picture::cell` meets its contract: on page 8 bit 0, elsewhere the whole byte.
-- Assumes nothing.
use mathlib.Core.Path.{sym}
use Rattle.controller.proofs.Cells.{cell_icons, cell_whole}
use Rattle.planner.proofs.picture.cell.Goals as goal

pub returns-then-page-eq8 : goal.returns-then-page-eq8
returns-then-page-eq8 c =
    rw c.if-page-eq8.true (sym (cell_icons c.args.byte))

pub returns-else-page-eq8 : goal.returns-else-page-eq8
returns-else-page-eq8 c =
    sym (cell_whole c.args.page c.args.byte c.if-page-eq8.false)
