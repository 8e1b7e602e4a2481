-- `recorder::line::first_line` meets its contract: by the kind of its letter there is no line, a long one or a short one.
-- Assumes nothing.
use mathlib.Core.Path.{◌∙◌}
use native.Mathlib.Omega.{arith}
use Rattle.recorder.proofs.Lines.{line_none, line_short, line_long, with_value, without_value}
use Rattle.recorder.proofs.line.first_line.Goals as goal

pub returns-in_err-kind : goal.returns-in_err-kind
returns-in_err-kind c =
    let e = rw c.byte_at.ensures at c.in_err-kind.ensures in
    rw c.from_residual.ensures (line_none _ (omega arith))

pub returns-in-Instruction : goal.returns-in-Instruction
returns-in-Instruction c =
    let e = rw c.byte_at.ensures at c.in_ok-kind.ensures in
    c.long_line.ensures
    ∙ rw (c.byte_at-end.ensures, c.byte_at-low.ensures, c.byte_at-high.ensures, c.byte_at-space.ensures, e)
    (line_long _ (rw e at (with_value _ c.in-Instruction.is)))

pub returns-in_default : goal.returns-in_default
returns-in_default c =
    let e = rw c.byte_at.ensures at c.in_ok-kind.ensures in
    let k = rw e at (without_value _ c.in_default.not-Instruction c.in_default.not-DataWrite) in
    c.short_line.ensures ∙ rw (c.byte_at-in_default.ensures, e) (line_short _ k.0 k.1)
