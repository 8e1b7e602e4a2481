-- `jobs::text::Text::letters` meets its contract: before each letter, those before it are put.
-- Assumes nothing.
use Rattle.std.proofs.Common.{take}
use Rattle.jobs.specs.Texts.{Puts}
use Rattle.jobs.proofs.text.Text.letters.Given as goal

abbrev pub invariant-loop-letter : goal.invariant-loop-letter
invariant-loop-letter l = Puts l.initial.self (take l.letter-index l.letters) l.self l.letter-index
