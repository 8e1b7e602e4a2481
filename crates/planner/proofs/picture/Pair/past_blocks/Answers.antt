-- `planner::picture::Pair::past_blocks` meets its contract: before each block, none of the columns so far differs.
-- Assumes nothing.
use Rattle.planner.proofs.Showing.{told}
use Rattle.planner.proofs.Passing.{past_block}
use Rattle.planner.proofs.picture.Pair.past_blocks.Goals as goal

pub loop-column-preserved : goal.loop-column-preserved
loop-column-preserved c =
    let same = told c.same_columns-same.ensures c.if-not-same.false in
    past_block 16 c.loop-column.invariant c.loop-column-test.true same
