-- `planner::picture::Pair::update_differing` meets its contract: an equal page has no work, and any other is walked.
-- Assumes nothing.
use Rattle.streams.proofs.Equal.{equal_walk}
use Rattle.planner.proofs.Showing.{told}
use Rattle.planner.proofs.Writing.{wrote_none}
use Rattle.planner.proofs.picture.Pair.update_differing.Goals as goal

pub returns-then-same_page : goal.returns-then-same_page
returns-then-same_page c =
    let a = c.args in
    rw (equal_walk a.self.wanted.width a.self.recorded.now a.self.wanted.bytes.now a.page (told c.same_page.ensures c.if-same_page.true)) (wrote_none _ _ _)
