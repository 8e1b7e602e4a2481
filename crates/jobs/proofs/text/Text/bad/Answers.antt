-- `jobs::text::Text::bad` meets its contract: `bad`, the number, the newline.
-- Assumes nothing.
use Rattle.jobs.specs.Text.{bad_line}
use Rattle.jobs.proofs.Texts.{puts_then}
use Rattle.jobs.proofs.text.Text.bad.Goals as goal

pub returns : goal.returns
unfolding bad_line
returns c =
    puts_then c.letters.ensures (puts_then c.field.ensures c.byte.ensures)
