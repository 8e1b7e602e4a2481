-- `jobs::play::Good::finish` meets its contract: the end line, and with two pictures the update's.
-- Assumes nothing.
use Rattle.jobs.proofs.Playing.{ending_short, ending_long}
use Rattle.jobs.proofs.play.Good.finish.Goals as goal

pub returns-then-self-ge2 : goal.returns-then-self-ge2
returns-then-self-ge2 c =
    ending_long _ _ _ c.end.ensures c.if-self-ge2.true c.wanted_length.ensures c.update.ensures

pub returns-else-self-ge2 : goal.returns-else-self-ge2
returns-else-self-ge2 c =
    ending_short _ _ _ c.end.ensures c.if-self-ge2.false
