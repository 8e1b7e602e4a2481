-- `face::bytes::names_none` meets its contract: the tests are those of the definition.
-- Assumes nothing.
use mathlib.Core.Path.{refl}
use Rattle.face.specs.Bytes.{unnamed}
use Rattle.face.proofs.bytes.names_none.Goals as goal

pub returns : goal.returns
unfolding unnamed
returns c =
    refl
