-- `registers::outside_range` meets its contract.
-- Assumes nothing.
use mathlib.Core.Path.{refl}
use native.Mathlib.Omega.{arith}
use Rattle.registers.specs.Registers.{outside}
use Rattle.registers.proofs.outside_range.Goals as goal

pub overflow_mul-columns : goal.overflow_mul-columns
unfolding outside
overflow_mul-columns c =
    omega arith

pub returns : goal.returns
unfolding outside
returns c =
    rw (c.saved_column-saved.ensures, c.outside_beside.ensures) refl
