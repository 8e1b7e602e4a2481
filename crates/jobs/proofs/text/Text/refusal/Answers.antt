-- `jobs::text::Text::refusal` meets its contract: `x`, the index, the number, the newline.
-- Assumes nothing.
use Rattle.jobs.specs.Text.{refusal_line}
use Rattle.jobs.proofs.Texts.{puts_then}
use Rattle.jobs.proofs.text.Text.refusal.Goals as goal

pub returns : goal.returns
unfolding refusal_line
returns c =
    puts_then c.byte.ensures (puts_then c.field.ensures (puts_then c.field-2.ensures c.byte-2.ensures))
