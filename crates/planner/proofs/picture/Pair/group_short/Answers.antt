-- `planner::picture::Pair::group_short` meets its contract: no group is longer than a whole page with its address.
-- Assumes nothing.
use mathlib.Core.Path.{sym}
use Rattle.planner.specs.Pair.{apart}
use Rattle.streams.proofs.Cost.{page_length_most}
use Rattle.planner.proofs.Sending.{still_long}
use Rattle.planner.proofs.picture.Pair.group_short.Goals as goal

pub returns-then-out-most : goal.returns-then-out-most
returns-then-out-most c =
    rw c.page_length-need.ensures

pub returns : goal.returns
returns c =
    let a = c.args in
    let d = apart a.self a.page in
    sym (still_long a.out a.kinds _ _ (page_length_most d a.self.wanted.width) c.if-out-most.false)
