-- `registers::outside_beside` meets its contract: the tests are those of the definition.
-- Assumes nothing.
use mathlib.Core.Path.{refl}
use Rattle.registers.specs.Beside.{outside_beside}
use Rattle.registers.proofs.outside_beside.Goals as goal

pub returns : goal.returns
unfolding outside_beside
returns c =
    rw c.of_other.ensures refl
