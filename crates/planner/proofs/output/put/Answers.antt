-- `planner::output::put` meets its contract: one cycle in both outputs.
-- Assumes nothing.
use Rattle.planner.proofs.Writing.{wrote_one}
use Rattle.planner.proofs.output.put.Goals as goal

pub returns : goal.returns
returns c =
    let a = c.args in wrote_one a.out.now a.kinds.now a.at a.kind a.byte c.requires
