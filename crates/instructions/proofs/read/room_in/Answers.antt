-- `instructions::read::room_in` meets its contract.
-- Assumes nothing.
use Rattle.paper.proofs.Tests.{tests}
use Rattle.instructions.specs.Read.{room_in}
use Rattle.instructions.proofs.read.room_in.Goals as goal

pub returns-then-high-highs : goal.returns-then-high-highs
unfolding room_in
returns-then-high-highs c =
    search tests

pub returns-else-high-highs : goal.returns-else-high-highs
unfolding room_in
returns-else-high-highs c =
    search tests
