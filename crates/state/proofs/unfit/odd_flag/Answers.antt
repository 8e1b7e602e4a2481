-- `state::unfit::odd_flag` meets its contract: the tests are those of the definition.
-- Assumes nothing.
use mathlib.Core.Path.{refl}
use Rattle.state.specs.Unfit.{odd_flag}
use Rattle.state.proofs.unfit.odd_flag.Goals as goal

pub returns : goal.returns
unfolding odd_flag
returns c =
    refl
