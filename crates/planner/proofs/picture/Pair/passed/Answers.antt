-- `planner::picture::Pair::passed` meets its contract: no column of an equal page differs, and none comes between a column and itself.
-- Assumes nothing.
use native.Mathlib.Omega.{arith}
use Rattle.streams.proofs.Equal.{equal_page}
use Rattle.planner.proofs.Showing.{told}
use Rattle.planner.proofs.Passing.{past_none}
use Rattle.planner.proofs.picture.Pair.passed.Goals as goal

pub returns-then-same_page : goal.returns-then-same_page
returns-then-same_page c =
    λ h. (h, omega arith, λ k a b. equal_page _ _ (told c.same_page.ensures c.if-same_page.true) k (omega arith) b)

pub returns : goal.returns
returns c =
    λ h. past_none h
