-- `controller::added::lines_of` meets its contract.
-- Assumes nothing.
use Rattle.paper.proofs.Tests.{tests}
use Rattle.controller.specs.Added.{lines_of}
use Rattle.controller.proofs.added.lines_of.Goals as goal

pub returns-then-value-eq0 : goal.returns-then-value-eq0
unfolding lines_of
returns-then-value-eq0 c =
    search tests

pub returns-else-value-eq0 : goal.returns-else-value-eq0
unfolding lines_of
returns-else-value-eq0 c =
    search tests
