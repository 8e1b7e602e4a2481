-- What a writer answers, and what it leaves in its output.
-- Assumes nothing.
use Rattle.std.specs.Prelude.{ℕ, ◌≡◌, cond, List, length, eqb, Result}
use Rattle.paper.specs.Told.{given, refused, told}
use Rattle.paper.specs.declared.refusal.Refusal.{Refusal}
use Rattle.paper.specs.Over.{over}

-- a call refused with `number`, 0 for none, that is to write `bytes`: their length is answered, and they stand in front of the output; a
-- refusal leaves it
pub record Written (number : ℕ) (bytes out : List ℕ) (a : Result ℕ Refusal) (left : List ℕ) : Type 0 where
  pub tells : told a ≡ cond (eqb number 0) (given (length bytes)) (refused number)
  pub leaves : left ≡ cond (eqb number 0) (over bytes out) out
