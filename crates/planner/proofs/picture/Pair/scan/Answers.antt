-- `planner::picture::Pair::scan` meets its contract: before each page and each column, nothing is found yet, and the first difference from
-- there on is the whole answer.
-- Assumes nothing.
use mathlib.Core.Path.{sym, ◌∙◌}
use native.Mathlib.Omega.{arith}
use Rattle.planner.proofs.Scanning.{first_here, first_next, first_end, first_passed, first_page, first_none}
use Rattle.planner.proofs.Showing.{told}
use Rattle.planner.proofs.picture.Pair.scan.Goals as goal

pub loop-column-init : goal.loop-column-init
loop-column-init c =
    let a = c.args in
    let e = c.passed-column.ensures (omega arith) in
    record {
      none_yet = c.pages.invariant.none_yet;
      left =
          sym (first_passed _ _ a.self.wanted.width _ _ _ e)
          ∙ sym (first_page a.self.wanted.width a.self.recorded.now a.self.wanted.bytes.now c.pages.page c.pages-test.true) ∙ c.pages.invariant.left;
    }

pub loop-column-preserved : goal.loop-column-preserved
loop-column-preserved c =
    let a = c.args in
    let l = c.loop-column in
    let equal = told c.differ.ensures c.if-differ.false in
    record {
      none_yet = l.invariant.none_yet;
      left =
          sym (first_next _ _ a.self.wanted.width l.column _ c.loop-column-test.true equal ∙ first_passed _ _ a.self.wanted.width _ _ _ c.past_equal-column.ensures) ∙ l.invariant.left;
    }

pub pages-preserved : goal.pages-preserved
pages-preserved c =
    let a = c.args in
    let l = c.loop-column in
    record {
      none_yet = l.invariant.none_yet;
      left = sym (first_end _ _ a.self.wanted.width l.column _ c.loop-column-test.false) ∙ l.invariant.left;
    }

pub returns-then-differ : goal.returns-then-differ
returns-then-differ c =
    let a = c.args in
    let l = c.loop-column in
    sym (first_here _ _ a.self.wanted.width l.column _ c.loop-column-test.true (sym c.differ.ensures ∙ c.if-differ.true)) ∙ l.invariant.left

pub returns-after-pages : goal.returns-after-pages
returns-after-pages c =
    let a = c.args in
    rw c.pages.invariant.none_yet
    (sym (first_none a.self.wanted.width a.self.recorded.now a.self.wanted.bytes.now c.pages.page c.pages-test.false) ∙ c.pages.invariant.left)
