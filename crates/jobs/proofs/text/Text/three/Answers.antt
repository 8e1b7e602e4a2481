-- `jobs::text::Text::three` meets its contract: three numbers and the newline.
-- Assumes nothing.
use Rattle.jobs.proofs.Texts.{puts_then}
use Rattle.jobs.proofs.text.Text.three.Goals as goal

pub returns : goal.returns
returns c =
    puts_then c.field.ensures (puts_then c.field-2.ensures (puts_then c.field-3.ensures c.byte.ensures))
