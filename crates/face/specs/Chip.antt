-- What the calls on the packed state promise in C, for any chip.
-- Assumes nothing.
use Rattle.std.specs.Prelude.{ℕ, ◌≡◌, ◌||◌, List, Result, Err}
use Rattle.paper.specs.Told.{refused, told}
use Rattle.paper.specs.declared.refusal.Refusal.{Refusal}
use Rattle.paper.specs.declared.refusal.Refusal.TheVariants.{OutOfRange}
use Rattle.paper.specs.declared.sheet.Sheet.{Sheet}
use Rattle.paper.specs.Answers.{Through, If, left_by, same}
use Rattle.registers.specs.Registers.{PoweredUp}
use Rattle.registers.specs.declared.Registers.{Registers}
use Rattle.controller.specs.Cycle.{refused_with, outcome, Cycled}
use Rattle.controller.specs.declared.cycle.Answer.{Answer}
use Rattle.glass.specs.Frame.{IsShown}
use Rattle.glass.specs.Power.{IsPower}
use Rattle.glass.specs.Voltage.{IsVoltage, IsVoltage0717}
use Rattle.glass.specs.declared.power.PowerState.{PowerState}
use Rattle.glass.specs.declared.power.PowerState.TheVariants.{Normal, Sleep, Standby}
use Rattle.planner.specs.Pictures.{misfit}
use Rattle.state.specs.Packed.{flag_byte, packed, unpacked}
use Rattle.state.specs.Unfit.{unfit, unfit_number}

-- power-up always gives a state, that of the registers at power-up
pub record PowerUpOut (k : Sheet) (state' : List ℕ) (r : ℕ) : Type 0 where
  pub registers : Registers
  pub promised : PoweredUp k registers
  pub left : state' ≡ packed registers
  pub number : r ≡ 0

-- ---- one cycle

-- the controller's answer to the registers that the state stands for
abbrev pub CycledOn : Sheet → List ℕ → List ℕ → ℕ → ℕ → Result Answer Refusal → List ℕ → Type 0
CycledOn k state memory kind value a memory' =
    If (unfit state) ((outcome a ≡ refused_with (unfit_number (misfit k.width memory))) × (memory' ≡ memory))
    (Cycled k (unpacked state) memory kind value a memory')

-- an answer, told: the state is that of the registers after it where they may change, a byte that is read is told by `read` 1, and a data
-- read tells by `fresh` whether its byte is fresh, 1 or 0
pub record CycleTold (answer : Result Answer Refusal) (state : List ℕ) (read byte fresh : ℕ) (state' : List ℕ) (read' byte' fresh' r : ℕ) : Type 0 where
  pub number : r ≡ (outcome answer).number
  pub state_left : state' ≡ left_by packed state (outcome answer).registers
  pub read_left : read' ≡ left_by (λ (b : ℕ). 1) read (outcome answer).byte
  pub byte_left : byte' ≡ left_by same byte (outcome answer).byte
  pub fresh_left : fresh' ≡ left_by flag_byte fresh (outcome answer).fresh

-- one cycle: refused with 1, 2, 9, 3, 4 in this order
pub record CycleOut (k : Sheet) (state memory : List ℕ) (kind value read byte fresh : ℕ) (state' memory' : List ℕ) (read' byte' fresh' r : ℕ) : Type 0 where
  pub answer : Result Answer Refusal
  pub promised : CycledOn k state memory kind value answer memory'
  pub told : CycleTold answer state read byte fresh state' read' byte' fresh' r

-- ---- the glass

-- the glass's answer to the registers that the state stands for
abbrev pub ShownOn : Sheet → List ℕ → List ℕ → List ℕ → Result (Unit {0}) Refusal → List ℕ → Type 0
ShownOn k state memory frame a frame' =
    If (unfit state) ((told a ≡ refused (unfit_number (misfit k.width memory || misfit k.width frame))) × (frame' ≡ frame))
    (IsShown k (unpacked state) memory frame a frame')

-- the frame is drawn, or refused with 1, 2 and left
pub record FrameOut (k : Sheet) (state memory frame frame' : List ℕ) (r : ℕ) : Type 0 where
  pub answer : Result (Unit {0}) Refusal
  pub promised : ShownOn k state memory frame answer frame'
  pub number : r ≡ (told answer).number

-- 0 normal, 1 sleep, 2 standby
abbrev pub power_byte : PowerState → ℕ
power_byte Normal = 0
power_byte Sleep = 1
power_byte Standby = 2

-- the glass's answer to the registers that the state stands for
abbrev pub PoweredOn : Sheet → List ℕ → Result PowerState Refusal → Type 0
PoweredOn k state a = If (unfit state) (a ≡ Err OutOfRange) (IsPower k (unpacked state) a)

-- the power state: refused with 2
abbrev pub PowerOut : Sheet → List ℕ → ℕ → ℕ → ℕ → Type 0
PowerOut k state answer answer' r = Through (PoweredOn k state) told power_byte answer answer' r

-- V0's numerator, over 15 for the KS0713 and over 27 for the KS0717: refused with 2
abbrev pub VoltageOut : ℕ → ℕ → ℕ → ℕ → ℕ → Type 0
VoltageOut resistor contrast numerator numerator' r = Through (IsVoltage resistor contrast) told (λ f. f.numerator) numerator numerator' r

abbrev pub VoltageOut0717 : ℕ → ℕ → ℕ → ℕ → ℕ → Type 0
VoltageOut0717 resistor contrast numerator numerator' r =
    Through (IsVoltage0717 resistor contrast) told (λ f. f.numerator) numerator numerator' r
