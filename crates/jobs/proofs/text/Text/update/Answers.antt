-- `jobs::text::Text::update` meets its contract: `update`, the number, the newline.
-- Assumes nothing.
use Rattle.jobs.specs.Text.{update_line}
use Rattle.jobs.proofs.Texts.{puts_then}
use Rattle.jobs.proofs.text.Text.update.Goals as goal

pub returns : goal.returns
unfolding update_line
returns c =
    puts_then c.letters.ensures (puts_then c.field.ensures c.byte.ensures)
