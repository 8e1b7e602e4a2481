-- `jobs::text::Text::digits` meets its contract, called by itself with fewer digits left: none left to put, or the digits before the last
-- and then the last.
-- Assumes nothing.
use Rattle.jobs.proofs.Texts.{puts_no_digits, puts_one_digit, puts_more_digits}
use Rattle.jobs.proofs.text.Text.+digits.Goals as goal
use Rattle.jobs.proofs.text.Text.+digits.Goals.{then-n-ge10, else-n-ge10}

pub returns-then-most-eq0 : goal.returns-then-most-eq0
returns-then-most-eq0 t c = puts_no_digits _ _ _ c.if-most-eq0.true

pub returns : goal.returns
returns t c =
    elim c.if-n-ge10.branch [
      | then-n-ge10 w ↦ puts_more_digits _ _ c.if-most-eq0.false w.if-n-ge10.true w.digits.ensures (rw (w.self-is, c.digit.ensures) at c.byte.ensures)
      | else-n-ge10 w ↦ puts_one_digit _ _ c.if-most-eq0.false w.if-n-ge10.false (rw (w.self-is, c.digit.ensures) at c.byte.ensures)
    ]
