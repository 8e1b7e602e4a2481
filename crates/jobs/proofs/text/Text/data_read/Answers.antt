-- `jobs::text::Text::data_read` meets its contract: the byte, the mark with the newline.
-- Assumes nothing.
use mathlib.Core.List.{append_assoc}
use Rattle.jobs.specs.Text.{marked_line, hex}
use Rattle.jobs.proofs.Texts.{puts_then}
use Rattle.jobs.proofs.text.Text.data_read.Goals as goal

pub returns : goal.returns
unfolding marked_line hex
returns c =
    rw (append_assoc, c.mark_letter.ensures) at (puts_then c.byte_read.ensures c.letters.ensures)
