-- `instructions::class::classes` meets its contract: antt computes at which bytes the table is wrong, and there are none. A wrong
-- entry is named by its byte in the error.
-- Assumes nothing.
use mathlib.Core.Path.{refl}
use Rattle.instructions.specs.Read.{class_of}
use Rattle.instructions.proofs.class.classes.Goals as goal

pub returns : goal.returns
unfolding class_of
returns c =
    record { entries = refl; none_wrong = refl }
