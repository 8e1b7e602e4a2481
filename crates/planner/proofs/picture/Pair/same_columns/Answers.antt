-- `planner::picture::Pair::same_columns` meets its contract: before each column, all so far are the same, and the rest will tell.
-- Assumes nothing.
use mathlib.Core.Path.{sym, ◌∙◌}
use Rattle.planner.specs.Pair.{apart}
use Rattle.streams.proofs.Equal.{equal_next, equal_end}
use Rattle.planner.proofs.picture.Pair.same_columns.Goals as goal

pub loop-column-preserved : goal.loop-column-preserved
loop-column-preserved c =
    let a = c.args in
    let d = apart a.self a.page in
    rw c.differ.ensures (equal_next d a.to c.loop-column.same c.loop-column.column c.loop-column-test.true) ∙ c.loop-column.invariant

pub returns : goal.returns
returns c =
    let a = c.args in
    let d = apart a.self a.page in
    sym (equal_end d a.to c.loop-column.same c.loop-column.column c.loop-column-test.false) ∙ c.loop-column.invariant
