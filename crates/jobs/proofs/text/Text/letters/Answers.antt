-- `jobs::text::Text::letters` meets its contract: a letter more is put.
-- Assumes nothing.
use Rattle.jobs.proofs.Texts.{puts_letter}
use Rattle.jobs.proofs.text.Text.letters.Goals as goal

pub loop-letter-preserved : goal.loop-letter-preserved
loop-letter-preserved c =
    puts_letter _ _ c.loop-letter-test.true c.loop-letter.invariant c.byte.ensures
