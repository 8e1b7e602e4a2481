-- `planner::output::put_two` meets its contract: two cycles in both outputs.
-- Assumes nothing.
use native.Mathlib.Omega.{arith}
use lib.ListN.{length-set}
use Rattle.planner.proofs.Writing.{wrote_two}
use Rattle.planner.proofs.output.put_two.Goals as goal

pub bounds-out-at-2 : goal.bounds-out-at-2
bounds-out-at-2 c =
    simp length-set (omega (arith, c.requires.out_room))

pub bounds-kinds-at-2 : goal.bounds-kinds-at-2
bounds-kinds-at-2 c =
    simp length-set (omega (arith, c.requires.kinds_room))

pub returns : goal.returns
returns c =
    let a = c.args in wrote_two a.out.now a.kinds.now a.at a.first a.second c.requires
