-- `recorder::line::letter_of` meets its contract: the table has the six letters in a row.
-- Assumes nothing.
use Prim.Native.Nat.{ℕ}
use mathlib.Core.Path.{sym, ap, ◌∙◌}
use mathlib.Core.List.{List}
use native.Mathlib.Omega.{arith}
use lib.ListN.{get_or}
use Rattle.paper.proofs.Listed.{at}
use Rattle.recorder.specs.Line.{letter_of}
use Rattle.recorder.proofs.Letters.{letters_are}
use Rattle.recorder.proofs.line.letter_of.Goals as goal

pub returns : goal.returns
returns c =
    ap (λ (l : List ℕ). get_or l c.args.kind 0) (sym letters_are) ∙ at letter_of 6 c.args.kind (omega (arith, c.if-kind-gt5.false))
