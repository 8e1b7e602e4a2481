-- `controller::added::duty_set` meets its contract.
-- Assumes nothing.
use Rattle.controller.specs.Added.{duty_set}
use Rattle.controller.proofs.added.duty_set.Goals as goal

pub returns-then-value : goal.returns-then-value
unfolding duty_set
returns-then-value c =
    rw c.if-value.true

pub returns-else-value : goal.returns-else-value
unfolding duty_set
returns-else-value c =
    rw c.if-value.false
