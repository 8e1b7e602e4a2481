-- The chip after a job's cycles.
-- Assumes nothing.
use Rattle.std.specs.Prelude.{ℕ, ◌≡◌, false, List}
use Rattle.paper.specs.Sheet.{sheet0713}
use Rattle.instructions.specs.declared.added.CommandSet.{CommandSet}
use Rattle.registers.specs.Registers.{outside}
use Rattle.registers.specs.declared.Registers.{Registers}
use Rattle.controller.specs.State.{state, powered_up_in, run}
use Rattle.bus.specs.Cycles.{cycles_of}
use Rattle.jobs.specs.declared.header.Job.{Job}
use Rattle.recorder.specs.Job.{file_cycles}

-- the registers and the memory after the cycles of a list from power-up in a command set with the memory m; the registers are in their
-- ranges
pub record FromPowerUp (set : CommandSet) (cycles m : List ℕ) (r : Registers) (left : List ℕ) : Type 0 where
  pub after : state r left ≡ run sheet0713 (powered_up_in sheet0713 set m) (cycles_of cycles)
  pub inside : outside sheet0713 r ≡ false

-- the same after a job's cycles
pub record Played (file : List ℕ) (j : Job) (m : List ℕ) (r : Registers) (left : List ℕ) : Type 0 where
  pub after : state r left ≡ run sheet0713 (powered_up_in sheet0713 j.set m) (file_cycles file j)
  pub inside : outside sheet0713 r ≡ false
