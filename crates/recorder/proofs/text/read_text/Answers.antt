-- `recorder::text::read_text` meets its contract: the good lines in front are measured, then written or refused.
-- Assumes nothing.
use Rattle.recorder.proofs.Answers.{read_bad, read_many, read_short, read_given}
use Rattle.recorder.proofs.text.read_text.Goals as goal

pub returns-then-seen-text : goal.returns-then-seen-text
returns-then-seen-text c =
    read_bad _ _ c.read_lines-seen.ensures c.if-seen-text.true

pub returns-then-seen-gt16000 : goal.returns-then-seen-gt16000
returns-then-seen-gt16000 c =
    rw c.into.ensures (read_many _ _ c.read_lines-seen.ensures c.if-seen-text.false c.if-seen-gt16000.true)

pub returns-then-out-seen : goal.returns-then-out-seen
returns-then-out-seen c =
    rw c.into-then-out-seen.ensures (read_short _ _ c.read_lines-seen.ensures c.if-seen-text.false c.if-seen-gt16000.false c.if-out-seen.true)

pub returns : goal.returns
returns c =
    read_given _ _ c.read_lines-seen.ensures c.if-seen-text.false c.if-seen-gt16000.false c.if-out-seen.false c.read_lines.ensures
