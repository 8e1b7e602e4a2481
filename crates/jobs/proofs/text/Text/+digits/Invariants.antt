-- `jobs::text::Text::digits` calls itself with one digit fewer left.
-- Assumes nothing.
use Rattle.jobs.proofs.text.Text.+digits.Given as goal

abbrev pub decreases-digits : goal.decreases-digits
decreases-digits l = l.most
