-- `controller::added::com0_set` meets its contract.
-- Assumes nothing.
use Rattle.paper.proofs.Tests.{tests}
use Rattle.controller.specs.Added.{com0_set}
use Rattle.controller.proofs.added.com0_set.Goals as goal

pub returns-then-value-le79 : goal.returns-then-value-le79
unfolding com0_set
returns-then-value-le79 c =
    search tests

pub returns-else-value-le79 : goal.returns-else-value-le79
unfolding com0_set
returns-else-value-le79 c =
    search tests
