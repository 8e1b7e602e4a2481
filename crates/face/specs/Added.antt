-- The new command set in C: its instructions by number, what its reader and writer promise, and the switch, for any chip.
-- Assumes nothing.
use Rattle.std.specs.Prelude.{ℕ, ◌%◌, ◌≡◌, Bool, cond, ◌||◌, ◌&&◌, List, ltb, eqb, Result, Err, Option as Maybe, Some, None}
use Rattle.std.proofs.Math.Option.{Option, none, some}
use Rattle.paper.specs.Told.{told}
use Rattle.paper.specs.declared.refusal.Refusal.{Refusal}
use Rattle.paper.specs.declared.refusal.Refusal.TheVariants.{OutOfRange}
use Rattle.paper.specs.declared.sheet.Sheet.{Sheet}
use Rattle.paper.specs.Answers.{Through, If, same}
use Rattle.instructions.specs.Added.{IsReadAdded, IsWrittenAdded}
use Rattle.instructions.specs.declared.added.Added.{Added}
use Rattle.instructions.specs.declared.added.Added.TheVariants.{Com0Next, Com0Value, DutyNext, DutyValue, InversionNext, InversionValue, FrameInversion}
use Rattle.registers.specs.Switch.{IsSwitched}
use Rattle.registers.specs.declared.Registers.{Registers}
use Rattle.state.specs.Packed.{awaited_of, set_of, packed, unpacked}
use Rattle.state.specs.Unfit.{unfit}
use Rattle.face.specs.Bytes.{WrittenBy}

-- ---- an instruction's number and value

-- in order 13's order, each second byte after the byte that announces it
abbrev pub added_number : Added → ℕ
added_number Com0Next = 0
added_number (Com0Value v) = 1
added_number DutyNext = 2
added_number (DutyValue v) = 3
added_number InversionNext = 4
added_number (InversionValue v) = 5
added_number FrameInversion = 6

-- an instruction without a value has 0
abbrev pub added_value : Added → ℕ
added_value Com0Next = 0
added_value (Com0Value v) = v
added_value DutyNext = 0
added_value (DutyValue v) = v
added_value InversionNext = 0
added_value (InversionValue v) = v
added_value FrameInversion = 0

-- both out-parameters of the reader
abbrev pub added_numbered : Added → ℕ × ℕ
added_numbered i = (added_number i, added_value i)

-- ---- and back

-- a number that is none's, or a value other than 0 where there is none, which is at the even numbers
unfoldable pub unnamed_added : ℕ → ℕ → Bool
unnamed_added n v = ltb 6 n || (eqb (n % 2) 0 && ltb 0 v)

-- the instruction of a number, with a value; 6 is the last
unfoldable pub by_added_number : ℕ → ℕ → Added
by_added_number n v =
    cond (eqb n 0) Com0Next
    (cond (eqb n 1) (Com0Value v)
    (cond (eqb n 2) DutyNext
    (cond (eqb n 3) (DutyValue v)
    (cond (eqb n 4) InversionNext
    (cond (eqb n 5) (InversionValue v)
    FrameInversion)))))

-- what a number and a value name
unfoldable pub named_added : ℕ → ℕ → Option Added
named_added n v = cond (unnamed_added n v) none (some (by_added_number n v))

-- the code's own option
abbrev pub told_named_added : Maybe Added → Option Added
told_named_added (Some i) = some i
told_named_added None = none

-- ---- the promises

-- an awaited byte that is none of the six is refused with 2; one of the old set is by the reader
abbrev pub ReadAddedOn : ℕ → ℕ → Result Added Refusal → Type 0
ReadAddedOn awaited byte a = If (ltb 5 awaited) (a ≡ Err OutOfRange) (IsReadAdded (awaited_of awaited) byte a)

-- a byte read as number and value: refused with 2, 4
abbrev pub ReadAddedOut : ℕ → ℕ → ℕ × ℕ → ℕ × ℕ → ℕ → Type 0
ReadAddedOut awaited byte out out' r = Through (ReadAddedOn awaited byte) told added_numbered out out' r

-- a number and a value written as a byte: refused with 6
abbrev pub WriteAddedOut : ℕ → ℕ → ℕ → ℕ → ℕ → Type 0
WriteAddedOut number value byte byte' r = Through (WrittenBy IsWrittenAdded (named_added number value)) told same byte byte' r

-- the switch of the registers that the state stands for, to the old set, 0, or the new one, 1; a state that stands for none and a set
-- above 1 are refused with 2
abbrev pub SwitchedOn : Sheet → List ℕ → ℕ → Result Registers Refusal → Type 0
SwitchedOn k state set a = If (unfit state || ltb 1 set) (a ≡ Err OutOfRange) (IsSwitched k (unpacked state) (set_of set) a)

-- the state after it: refused with 2, 13
abbrev pub SwitchOut : Sheet → List ℕ → ℕ → List ℕ → ℕ → Type 0
SwitchOut k state set state' r = Through (SwitchedOn k state set) told packed state state' r
