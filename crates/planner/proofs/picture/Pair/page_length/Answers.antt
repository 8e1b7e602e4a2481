-- `planner::picture::Pair::page_length` meets its contract: an equal page has no work; on any other, before each column, the bytes so far are
-- counted, and so is the gap; at the end the page byte is added to any bytes.
-- Assumes nothing.
use mathlib.Core.Path.{sym}
use native.Mathlib.Omega.{arith}
use Rattle.streams.proofs.Counting.{count_none, count_end, count_most}
use Rattle.streams.proofs.Equal.{equal_length}
use Rattle.planner.proofs.Showing.{told}
use Rattle.planner.proofs.picture.Pair.page_length.Goals as goal

pub returns-then-same_page : goal.returns-then-same_page
returns-then-same_page c =
    sym (equal_length _ _ (told c.same_page.ensures c.if-same_page.true))

pub loop-column-init : goal.loop-column-init
loop-column-init c =
    (omega arith, count_none _ _)

pub returns-then-tally-eq0 : goal.returns-then-tally-eq0
returns-then-tally-eq0 c =
    omega (arith, c.if-tally-eq0.true, count_end _ _ _ _ _ c.loop-column-test.false c.loop-column.invariant.1)

pub overflow_add-result : goal.overflow_add-result
overflow_add-result c =
    omega (arith, count_most _ _ _ _ _ c.loop-column.invariant.1)

pub returns : goal.returns
returns c =
    omega (arith, c.if-tally-eq0.false, count_end _ _ _ _ _ c.loop-column-test.false c.loop-column.invariant.1)
