-- `jobs::text::Text::read` meets its contract: the byte, the newline.
-- Assumes nothing.
use mathlib.Core.List.{append_assoc}
use Rattle.jobs.specs.Text.{read_line, hex}
use Rattle.jobs.proofs.Texts.{puts_then}
use Rattle.jobs.proofs.text.Text.read.Goals as goal

pub returns : goal.returns
unfolding read_line hex
returns c =
    rw append_assoc at (puts_then c.byte_read.ensures c.byte.ensures)
