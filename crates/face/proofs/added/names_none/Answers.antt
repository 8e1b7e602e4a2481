-- `face::added::names_none` meets its contract: the tests are those of the definition.
-- Assumes nothing.
use mathlib.Core.Path.{refl}
use Rattle.face.specs.Added.{unnamed_added}
use Rattle.face.proofs.added.names_none.Goals as goal

pub returns : goal.returns
unfolding unnamed_added
returns c =
    refl
