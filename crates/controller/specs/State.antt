-- The chip as a whole, registers and memory, and what a list of cycles does to it.
-- Assumes nothing.
use Rattle.std.specs.Prelude.{ℕ, ◌*◌, ◌≡◌, Bool, true, false, List, length}
use Rattle.std.proofs.Math.Option.{Option, none, some}
use Rattle.paper.specs.declared.sheet.Sheet.{Sheet}
use Rattle.instructions.specs.declared.instruction.Awaited.{Awaited}
use Rattle.instructions.specs.declared.instruction.Awaited.TheVariants as awaited
use Rattle.instructions.specs.declared.added.CommandSet.{CommandSet}
use Rattle.instructions.specs.declared.added.CommandSet.TheVariants.{Old}
use Rattle.registers.specs.Registers.{column, start, with_page, with_column, with_holder, with_contrast, with_indicator, with_indicator_value, with_awaited, with_fresh, with_set, outside}
use Rattle.registers.specs.declared.Registers.{Registers}
use Rattle.controller.specs.Cycle.{answer, memory_after}
use Rattle.controller.specs.Run.{BusCycle, run_by, numbers_by}

pub record State : Type 0 where
  pub registers : Registers
  pub memory : List ℕ

abbrev pub state : Registers → List ℕ → State
state r m = record { registers = r; memory = m }

-- the chip at power-up, with the memory as lent
abbrev pub powered_up : Sheet → List ℕ → State
powered_up k m = state (start k 0 false) m

-- and in a command set
abbrev pub powered_up_in : Sheet → CommandSet → List ℕ → State
powered_up_in k set m = state (with_set (start k 0 false) set) m

-- the registers after an answer: where it gives none they stay
abbrev pub after_by : Registers → Option Registers → Registers
after_by r (some n) = n
after_by r none = r

-- one cycle: a refused one changes nothing
abbrev pub step : Sheet → State → BusCycle → State
step k s x = state
    (after_by s.registers (answer k s.registers s.memory x.0 x.1).registers)
    (memory_after k s.registers s.memory x.0 x.1)

-- the number that a cycle is refused with, 0 for none
abbrev pub number : Sheet → State → BusCycle → ℕ
number k s x = (answer k s.registers s.memory x.0 x.1).number

-- a list of cycles, and the number that each of them is refused with
abbrev pub run : Sheet → State → List BusCycle → State
run k s xs = run_by (step k) s xs

abbrev pub numbers : Sheet → State → List BusCycle → List ℕ
numbers k s xs = numbers_by (step k) (number k) s xs

-- ---- demand 3's premises

-- the reset pin high and all else unknown: memory of nine pages, registers in range. Demand 3 speaks of the old command set
pub record Restartable (k : Sheet) (s : State) : Type 0 where
  pub long : length s.memory ≡ 9 * k.width
  pub ranged : outside k s.registers ≡ false
  pub high : s.registers.pin_low ≡ false
  pub old : s.registers.beside.set ≡ Old

-- the reset pin high and no second byte awaited
pub record Ready (k : Sheet) (s : State) : Type 0 where
  pub restartable : Restartable k s
  pub quiet : s.registers.awaited ≡ awaited.Nothing

-- ---- what streams move

-- page, column and holder as given, all else as in r
abbrev pub placed : Registers → ℕ → ℕ → ℕ → Registers
placed r p c h = with_holder (with_column (with_page r p) (column c)) h

-- the registers without what an update moves
abbrev pub rest : Registers → Registers
rest r = with_fresh (placed r 0 0 0) false

-- the registers without what a redraw moves
abbrev pub settings : Registers → Registers
settings r = with_awaited (with_indicator_value (with_indicator (with_contrast (rest r) 0) false) 0) awaited.Nothing

-- the indicator's second byte is the one awaited
abbrev pub indicator_awaited : Awaited → Bool
indicator_awaited awaited.Nothing = false
indicator_awaited awaited.Contrast = false
indicator_awaited awaited.Indicator = true
indicator_awaited awaited.Com0 = false
indicator_awaited awaited.Duty = false
indicator_awaited awaited.Inversion = false
