-- `recorder::text::put_lines` meets its contract: before each cycle, the text from it on is what remains to be put.
-- Assumes nothing.
use mathlib.Core.Path.{◌∙◌, ap}
use native.Mathlib.Omega.{arith}
use lib.ListN.{length, length-append}
use Rattle.std.specs.Slice.Iter.{chunks_exact_rest}
use Rattle.recorder.proofs.Writing.{lines_turn, lines_end}
use Rattle.recorder.proofs.text.put_lines.Goals as goal

pub loop-cycle-preserved : goal.loop-cycle-preserved
loop-cycle-preserved c =
    let inv = c.loop-cycle.invariant in
    let step = c.in-Some.ensures.steps in
    let n = step.1.1 ∙ inv.0 in (
      step.0 ∙ inv.0,
      omega (arith, c.put_line-at.ensures.near, inv.1, n, ap length step.1.0, length-append c.in-Some.cycle.now (chunks_exact_rest c.next.new.self)),
      lines_turn c.in-Some.cycle.now _ step.1.0 n inv.2 c.put_line-at.ensures,
    )

pub returns : goal.returns
returns c =
    let inv = c.loop-cycle.invariant in
    let step = c.in-None.ensures.steps in
    lines_end _ (omega (arith, step.1.0, inv.0)) inv.2 (omega (arith, inv.1))
