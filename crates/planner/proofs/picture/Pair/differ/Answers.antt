-- `planner::picture::Pair::differ` meets its contract: it compares what the two pictures show.
-- Assumes nothing.
use Rattle.planner.proofs.Showing.{differ_is}
use Rattle.planner.proofs.picture.Pair.differ.Goals as goal

pub returns : goal.returns
returns c =
    differ_is _ _ _ _ _ _ _ c.shown_at.ensures c.shown_at-2.ensures
