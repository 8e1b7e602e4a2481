-- `jobs::text::digit` meets its contract: the table has the sixteen digits in a row.
-- Assumes nothing.
use Prim.Native.Nat.{ℕ}
use mathlib.Core.Path.{sym, ap, ◌∙◌}
use mathlib.Core.List.{List}
use lib.ListN.{get_or}
use Rattle.paper.proofs.Listed.{at}
use Rattle.jobs.specs.Text.{digit}
use Rattle.jobs.proofs.Digits.{digits_are}
use Rattle.jobs.proofs.text.digit.Goals as goal

pub returns : goal.returns
returns c =
    ap (λ (l : List ℕ). get_or l c.args.d 0) (sym digits_are) ∙ at digit 16 c.args.d c.requires
