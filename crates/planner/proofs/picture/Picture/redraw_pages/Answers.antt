-- `planner::picture::Picture::redraw_pages` meets its contract: before each page, the pages left, put now, give all nine.
-- Assumes nothing.
use borrow.Author.Rules.{rules}
use Rattle.streams.proofs.Walking.{whole_pages_next, whole_pages_end}
use Rattle.planner.proofs.Writing.{going_room, going_step, going_end}
use Rattle.planner.proofs.picture.Picture.redraw_pages.Goals as goal

pub redraw_page-at-requires : goal.redraw_page-at-requires
redraw_page-at-requires c =
    let a = c.args in
    let n = whole_pages_next a.self.width a.self.bytes.now c.loop-page.page c.loop-page-test.true in
    (search rules, going_room _ _ n c.loop-page.invariant)

pub loop-page-preserved : goal.loop-page-preserved
loop-page-preserved c =
    let a = c.args in
    let n = whole_pages_next a.self.width a.self.bytes.now c.loop-page.page c.loop-page-test.true in
    going_step _ _ n c.loop-page.invariant c.redraw_page-at.ensures

pub returns : goal.returns
returns c =
    let a = c.args in
    going_end (whole_pages_end a.self.width a.self.bytes.now c.loop-page.page c.loop-page-test.false) c.loop-page.invariant
