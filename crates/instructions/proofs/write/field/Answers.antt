-- `instructions::write::field` meets its contract.
-- Assumes nothing.
use Rattle.paper.proofs.Tests.{tests}
use Rattle.instructions.specs.Write.{field_of}
use Rattle.instructions.proofs.write.field.Goals as goal

pub returns-then-value-count : goal.returns-then-value-count
unfolding field_of
returns-then-value-count c =
    search tests

pub returns : goal.returns
unfolding field_of
returns c =
    search tests
