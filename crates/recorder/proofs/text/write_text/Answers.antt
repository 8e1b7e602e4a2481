-- `recorder::text::write_text` meets its contract: the text is measured, then written or refused.
-- Assumes nothing.
use mathlib.Core.Path.{sym, ◌∙◌}
use Rattle.recorder.proofs.Answers.{text_many, text_wrong, text_short, text_given}
use Rattle.recorder.proofs.text.write_text.Goals as goal

pub returns-then-cycles-gt16000 : goal.returns-then-cycles-gt16000
returns-then-cycles-gt16000 c =
    text_many _ _ c.if-cycles-gt16000.true

pub returns-then-wrong_cycles : goal.returns-then-wrong_cycles
returns-then-wrong_cycles c =
    text_wrong _ _ c.if-cycles-gt16000.false (sym c.wrong_cycles.ensures ∙ c.if-wrong_cycles.true)

pub returns-then-out-n : goal.returns-then-out-n
returns-then-out-n c =
    text_short _ _ c.if-cycles-gt16000.false (sym c.wrong_cycles.ensures ∙ c.if-wrong_cycles.false) c.put_lines-n.ensures c.if-out-n.true

pub returns : goal.returns
returns c =
    text_given _ _ c.if-cycles-gt16000.false (sym c.wrong_cycles.ensures ∙ c.if-wrong_cycles.false) c.put_lines-n.ensures
    c.if-out-n.false c.put_lines.ensures
