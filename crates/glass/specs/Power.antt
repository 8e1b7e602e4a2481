-- The power state.
-- Assumes nothing.
use Rattle.std.specs.Prelude.{◌≡◌, cond, not, ◌&&◌, Result}
use Rattle.paper.specs.Refusal.{out_of_range}
use Rattle.paper.specs.Told.{given, refused, told}
use Rattle.paper.specs.declared.refusal.Refusal.{Refusal}
use Rattle.paper.specs.declared.sheet.Sheet.{Sheet}
use Rattle.registers.specs.Registers.{outside}
use Rattle.registers.specs.declared.Registers.{Registers}
use Rattle.glass.specs.declared.power.PowerState.{PowerState}
use Rattle.glass.specs.declared.power.PowerState.TheVariants.{Normal, Sleep, Standby}

-- display off with entire display on is sleep if the indicator is off and standby if on; all else is normal
unfoldable pub power_of : Registers → PowerState
power_of r = cond (not r.on && r.entire) (cond r.indicator Standby Sleep) Normal

-- what power_state promises: the state, or 2
pub record IsPower (c : Sheet) (r : Registers) (a : Result PowerState Refusal) : Type 0 where
  pub tells : told a ≡ cond (outside c r) (refused out_of_range) (given (power_of r))
