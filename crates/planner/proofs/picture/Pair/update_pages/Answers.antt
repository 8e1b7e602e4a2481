-- `planner::picture::Pair::update_pages` meets its contract: before each page, what the pages left send, put now, gives the whole update.
-- Assumes nothing.
use borrow.Author.Rules.{rules}
use Rattle.streams.proofs.Walking.{walk_pages_next, walk_pages_end}
use Rattle.planner.proofs.Writing.{going_room, going_step, going_end}
use Rattle.planner.proofs.picture.Pair.update_pages.Goals as goal

pub update_differing-at-requires : goal.update_differing-at-requires
update_differing-at-requires c =
    let a = c.args in
    let n = walk_pages_next a.self.wanted.width a.self.recorded.now a.self.wanted.bytes.now c.loop-page.page c.loop-page-test.true in
    (search rules, going_room _ _ n c.loop-page.invariant)

pub loop-page-preserved : goal.loop-page-preserved
loop-page-preserved c =
    let a = c.args in
    let n = walk_pages_next a.self.wanted.width a.self.recorded.now a.self.wanted.bytes.now c.loop-page.page c.loop-page-test.true in
    going_step _ _ n c.loop-page.invariant c.update_differing-at.ensures

pub returns : goal.returns
returns c =
    let a = c.args in
    going_end (walk_pages_end a.self.wanted.width a.self.recorded.now a.self.wanted.bytes.now c.loop-page.page c.loop-page-test.false) c.loop-page.invariant
