-- `instructions::write::flag` meets its contract.
-- Assumes nothing.
use Rattle.instructions.specs.Write.{flag_of}
use Rattle.instructions.proofs.write.flag.Goals as goal

pub returns-then-value : goal.returns-then-value
unfolding flag_of
returns-then-value c =
    rw c.if-value.true

pub returns : goal.returns
unfolding flag_of
returns c =
    rw c.if-value.false
