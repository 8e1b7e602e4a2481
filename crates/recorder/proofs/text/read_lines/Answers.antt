-- `recorder::text::read_lines` meets its contract: before each line, the good lines from there on complete the count, the place and the output.
-- Assumes nothing.
use native.Mathlib.Omega.{arith}
use borrow.Author.Rules.{rules}
use Rattle.recorder.proofs.Reading.{reading_start, reading_next, reading_end, within}
use Rattle.recorder.proofs.text.read_lines.Goals as goal

pub loop-line-init : goal.loop-line-init
loop-line-init c = reading_start _ _

pub loop-line-preserved : goal.loop-line-preserved
loop-line-preserved c =
    rw (c.store-in-Some.ensures, c.store.ensures, c.into.ensures)
    (reading_next _ _ _ _ _ _ c.first_line.ensures c.in-Some.is c.loop-line.invariant)

pub returns : goal.returns
returns c = reading_end _ _ _ _ _ _ c.first_line.ensures c.in_default.is c.loop-line.invariant

pub overflow_add-at : goal.overflow_add-at
overflow_add-at c =
    let f = (within c.loop-line.invariant c.first_line.ensures c.in-Some.is).0 in
    search (rules, f)

pub loop-line-smaller : goal.loop-line-smaller
loop-line-smaller c =
    let f = within c.loop-line.invariant c.first_line.ensures c.in-Some.is in
    omega (arith, f.0, f.1)
