-- The instructions by number, and what reader and writer promise in C, for any chip.
-- Assumes nothing.
use Rattle.std.specs.Prelude.{ℕ, ◌≡◌, Bool, cond, ◌||◌, ◌&&◌, ltb, leb, eqb, Result, Err, Option as Maybe, Some, None}
use Rattle.std.proofs.Math.Option.{Option, none, some}
use Rattle.paper.specs.Told.{told}
use Rattle.paper.specs.declared.refusal.Refusal.{Refusal}
use Rattle.paper.specs.declared.refusal.Refusal.TheVariants.{OutOfRange, OutsideField}
use Rattle.paper.specs.declared.sheet.Sheet.{Sheet}
use Rattle.paper.specs.Answers.{Through, If, same}
use Rattle.instructions.specs.Read.{IsRead}
use Rattle.instructions.specs.Write.{IsWritten}
use Rattle.instructions.specs.declared.instruction.Instruction.{Instruction}
use Rattle.instructions.specs.declared.instruction.Instruction.TheVariants.{ColumnLow, ColumnHigh, Resistor, Power, StartLine, ContrastNext, ContrastValue, Adc, Bias, Entire, Reverse, IndicatorOff, IndicatorOn, IndicatorValue, Display, Page, Shl, ModifyReadOn, ModifyReadOff, Reset, Nop}
use Rattle.state.specs.Packed.{flag_byte, awaited_of}

-- ---- an instruction's number and value

-- in the order of document 01's table, each second byte after the byte that announces it
abbrev pub number_of : Instruction → ℕ
number_of (ColumnLow v) = 0
number_of (ColumnHigh v) = 1
number_of (Resistor v) = 2
number_of (Power v) = 3
number_of (StartLine v) = 4
number_of ContrastNext = 5
number_of (ContrastValue v) = 6
number_of (Adc f) = 7
number_of (Bias f) = 8
number_of (Entire f) = 9
number_of (Reverse f) = 10
number_of IndicatorOff = 11
number_of IndicatorOn = 12
number_of (IndicatorValue v) = 13
number_of (Display f) = 14
number_of (Page v) = 15
number_of (Shl f) = 16
number_of ModifyReadOn = 17
number_of ModifyReadOff = 18
number_of Reset = 19
number_of Nop = 20

-- a flag is 0 or 1, and an instruction without a value has 0
abbrev pub value_of : Instruction → ℕ
value_of (ColumnLow v) = v
value_of (ColumnHigh v) = v
value_of (Resistor v) = v
value_of (Power v) = v
value_of (StartLine v) = v
value_of ContrastNext = 0
value_of (ContrastValue v) = v
value_of (Adc f) = flag_byte f
value_of (Bias f) = flag_byte f
value_of (Entire f) = flag_byte f
value_of (Reverse f) = flag_byte f
value_of IndicatorOff = 0
value_of IndicatorOn = 0
value_of (IndicatorValue v) = v
value_of (Display f) = flag_byte f
value_of (Page v) = v
value_of (Shl f) = flag_byte f
value_of ModifyReadOn = 0
value_of ModifyReadOff = 0
value_of Reset = 0
value_of Nop = 0

-- both out-parameters of the reader
abbrev pub numbered : Instruction → ℕ × ℕ
numbered i = (number_of i, value_of i)

-- ---- and back

-- ADC, bias, entire and reverse, display, SHL: 0 or 1
abbrev pub takes_flag : ℕ → Bool
takes_flag n = (leb 7 n && leb n 10) || eqb n 14 || eqb n 16

-- 81, AC and AD, and from modify-read on the last four: no value
abbrev pub takes_none : ℕ → Bool
takes_none n = eqb n 5 || eqb n 11 || eqb n 12 || leb 17 n

-- a number that is none's, a flag above 1, or a value other than 0 where there is none
unfoldable pub unnamed : ℕ → ℕ → Bool
unnamed n v = ltb 20 n || (takes_flag n && ltb 1 v) || (takes_none n && ltb 0 v)

-- the instruction of a number, with a value; 20 is the last
unfoldable pub by_number : ℕ → ℕ → Instruction
by_number n v =
    cond (eqb n 0) (ColumnLow v)
    (cond (eqb n 1) (ColumnHigh v)
    (cond (eqb n 2) (Resistor v)
    (cond (eqb n 3) (Power v)
    (cond (eqb n 4) (StartLine v)
    (cond (eqb n 5) ContrastNext
    (cond (eqb n 6) (ContrastValue v)
    (cond (eqb n 7) (Adc (eqb v 1))
    (cond (eqb n 8) (Bias (eqb v 1))
    (cond (eqb n 9) (Entire (eqb v 1))
    (cond (eqb n 10) (Reverse (eqb v 1))
    (cond (eqb n 11) IndicatorOff
    (cond (eqb n 12) IndicatorOn
    (cond (eqb n 13) (IndicatorValue v)
    (cond (eqb n 14) (Display (eqb v 1))
    (cond (eqb n 15) (Page v)
    (cond (eqb n 16) (Shl (eqb v 1))
    (cond (eqb n 17) ModifyReadOn
    (cond (eqb n 18) ModifyReadOff
    (cond (eqb n 19) Reset
    Nop)))))))))))))))))))

-- what a number and a value name
unfoldable pub named : ℕ → ℕ → Option Instruction
named n v = cond (unnamed n v) none (some (by_number n v))

-- the code's own option
abbrev pub told_named : Maybe Instruction → Option Instruction
told_named (Some i) = some i
told_named None = none

-- ---- the promises

-- an awaited byte that is none of the six is refused with 2; one of the new set is by the reader
abbrev pub ReadOn : Sheet → ℕ → ℕ → Result Instruction Refusal → Type 0
ReadOn k awaited byte a = If (ltb 5 awaited) (a ≡ Err OutOfRange) (IsRead k (awaited_of awaited) byte a)

-- a byte read as number and value: refused with 2, 4
abbrev pub ReadOut : Sheet → ℕ → ℕ → ℕ × ℕ → ℕ × ℕ → ℕ → Type 0
ReadOut k awaited byte out out' r = Through (ReadOn k awaited byte) told numbered out out' r

-- what is no instruction is refused with 6
abbrev pub WrittenBy : {I : Type 0} → (I → Result ℕ Refusal → Type 0) → Option I → Result ℕ Refusal → Type 0
WrittenBy Is (some i) a = Is i a
WrittenBy Is none a = a ≡ Err OutsideField

abbrev pub WrittenIf : Sheet → Option Instruction → Result ℕ Refusal → Type 0
WrittenIf k x a = WrittenBy (IsWritten k) x a

-- a number and a value written as a byte: refused with 6
abbrev pub WriteOut : Sheet → ℕ → ℕ → ℕ → ℕ → ℕ → Type 0
WriteOut k number value byte byte' r = Through (WrittenIf k (named number value)) told same byte byte' r
