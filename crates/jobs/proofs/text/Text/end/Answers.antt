-- `jobs::text::Text::end` meets its contract: `end`, three numbers, six flags, contrast, and how the line ends.
-- Assumes nothing.
use Rattle.jobs.specs.Text.{end_line}
use Rattle.jobs.proofs.Texts.{puts_then}
use Rattle.jobs.proofs.text.Text.end.Goals as goal

pub returns : goal.returns
unfolding end_line
returns c =
    rw (← c.modifying.ensures)
    (puts_then c.letters.ensures (puts_then c.field.ensures (puts_then c.field-2.ensures (puts_then c.field-3.ensures
    (puts_then c.flag.ensures (puts_then c.flag-2.ensures (puts_then c.flag-3.ensures (puts_then c.flag-4.ensures
    (puts_then c.flag-5.ensures (puts_then c.flag-6.ensures (puts_then c.field-4.ensures c.line_end.ensures)))))))))))
