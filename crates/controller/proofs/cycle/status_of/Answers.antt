-- `controller::cycle::status_of` meets its contract: the bits never carry.
-- Assumes nothing.
use native.Mathlib.Omega.{arith}
use Rattle.controller.specs.Cycle.{status}
use Rattle.controller.proofs.cycle.status_of.Goals as goal

pub overflow_add-result : goal.overflow_add-result
unfolding status
overflow_add-result c =
    omega (arith, c.choose.ensures.1, c.choose-2.ensures.1)

pub overflow_add-result-2 : goal.overflow_add-result-2
unfolding status
overflow_add-result-2 c =
    omega (arith, c.choose.ensures.1, c.choose-2.ensures.1, c.choose-3.ensures.1)

pub returns : goal.returns
unfolding status
returns c =
    cc
