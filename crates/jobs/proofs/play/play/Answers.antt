-- `jobs::play::play` meets its contract: the text is measured, then written or refused.
-- Assumes nothing.
use Rattle.jobs.proofs.Playing.{play_fits, play_short}
use Rattle.jobs.proofs.play.play.Goals as goal

pub returns-then-n-out : goal.returns-then-n-out
returns-then-n-out c =
    play_fits _ _ c.put_text-n.ensures c.if-n-out.true c.put_text.ensures

pub returns : goal.returns
returns c =
    play_short _ _ c.put_text-n.ensures c.if-n-out.false
