-- `planner::picture::Pair::too_short` meets its contract: no update is longer than nine whole pages.
-- Assumes nothing.
use mathlib.Core.Path.{sym}
use Rattle.streams.proofs.Length.{update_most}
use Rattle.planner.proofs.Sending.{still_long}
use Rattle.planner.proofs.picture.Pair.too_short.Goals as goal

pub returns-then-out-most : goal.returns-then-out-most
returns-then-out-most c =
    rw c.pages_length-need.ensures

pub returns : goal.returns
returns c =
    let a = c.args in
    sym (still_long a.out a.kinds _ _ (update_most a.self.wanted.width a.self.recorded.now a.self.wanted.bytes.now) c.if-out-most.false)
