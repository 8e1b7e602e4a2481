-- `state::unfit::is_unfit` meets its contract: the tests are those of the definition.
-- Assumes nothing.
use mathlib.Core.Path.{refl}
use Rattle.state.specs.Unfit.{unfit}
use Rattle.state.proofs.unfit.is_unfit.Goals as goal

pub returns : goal.returns
unfolding unfit
returns c =
    rw (c.spare_used.ensures, c.odd_flag.ensures) refl
