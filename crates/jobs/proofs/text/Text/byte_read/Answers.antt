-- `jobs::text::Text::byte_read` meets its contract: `r`, the index, the byte.
-- Assumes nothing.
use Rattle.jobs.proofs.Texts.{puts_then}
use Rattle.jobs.proofs.text.Text.byte_read.Goals as goal

pub returns : goal.returns
returns c =
    puts_then c.byte.ensures (puts_then c.field.ensures (puts_then c.byte-2.ensures c.hex.ensures))
