-- What a byte is read as, with what is awaited.
-- Assumes nothing.
use Rattle.std.specs.Prelude.{ℕ, ◌+◌, ◌-◌, ◌%◌, ◌≡◌, Bool, true, false, cond, not, ◌&&◌, ltb, leb, eqb, Result}
use Rattle.std.proofs.Math.Option.{Option, none, some}
use Rattle.paper.specs.Refusal.{out_of_range, unassigned}
use Rattle.paper.specs.Told.{Told, given, refused, told}
use Rattle.paper.specs.declared.refusal.Refusal.{Refusal}
use Rattle.paper.specs.declared.sheet.Sheet.{Sheet}
use Rattle.instructions.specs.Write.{write_of}
use Rattle.instructions.specs.declared.instruction.Awaited.{Awaited}
use Rattle.instructions.specs.declared.instruction.Awaited.TheVariants as awaited
use Rattle.instructions.specs.declared.instruction.Instruction.{Instruction}
use Rattle.instructions.specs.declared.instruction.Instruction.TheVariants.{ColumnLow, ColumnHigh, Resistor, Power, StartLine, ContrastNext, ContrastValue, Adc, Bias, Entire, Reverse, IndicatorOff, IndicatorOn, IndicatorValue, Display, Page, Shl, ModifyReadOn, ModifyReadOff, Reset, Nop}

-- from one byte of the table through another
abbrev pub within : ℕ → ℕ → ℕ → Bool
within first last b = leb first b && leb b last

-- the class of a byte, by the ranges of the table: its row, or 0 where the byte is unassigned
unfoldable pub class_of : ℕ → ℕ
class_of b =
    cond (within 0x00 0x0f b) 1
    (cond (within 0x10 0x1f b) 2
    (cond (within 0x20 0x27 b) 3
    (cond (within 0x28 0x2f b) 4
    (cond (within 0x40 0x7f b) 5
    (cond (eqb b 0x81) 6
    (cond (within 0xa0 0xa1 b) 7
    (cond (within 0xa2 0xa3 b) 8
    (cond (within 0xa4 0xa5 b) 9
    (cond (within 0xa6 0xa7 b) 10
    (cond (eqb b 0xac) 11
    (cond (eqb b 0xad) 12
    (cond (within 0xae 0xaf b) 13
    (cond (within 0xb0 0xbf b) 14
    (cond (within 0xc0 0xcf b) 15
    (cond (eqb b 0xe0) 16
    (cond (eqb b 0xee) 17
    (cond (eqb b 0xe2) 18
    (cond (eqb b 0xe3) 19
    0))))))))))))))))))

-- the high part of a column, less the bit that the counter has no room for
unfoldable pub room_in : ℕ → ℕ → ℕ
room_in highs h = cond (ltb h highs) h (h - highs)

-- what a byte of a class is read as
unfoldable pub read_by : Sheet → ℕ → ℕ → Told Instruction
read_by k c b =
    cond (eqb c 1) (given (ColumnLow (b % 16)))
    (cond (eqb c 2) (given (ColumnHigh (room_in k.highs (b % 16))))
    (cond (eqb c 3) (given (Resistor (b % 8)))
    (cond (eqb c 4) (given (Power (b % 8)))
    (cond (eqb c 5) (given (StartLine (b % 64)))
    (cond (eqb c 6) (given ContrastNext)
    (cond (eqb c 7) (given (Adc (eqb (b % 2) 1)))
    (cond (eqb c 8) (given (Bias (eqb (b % 2) 1)))
    (cond (eqb c 9) (given (Entire (eqb (b % 2) 1)))
    (cond (eqb c 10) (given (Reverse (eqb (b % 2) 1)))
    (cond (eqb c 11) (given IndicatorOff)
    (cond (eqb c 12) (given IndicatorOn)
    (cond (eqb c 13) (given (Display (eqb (b % 2) 1)))
    (cond (eqb c 14) (given (Page (b % 16)))
    (cond (eqb c 15) (given (Shl (leb 8 (b % 16))))
    (cond (eqb c 16) (given ModifyReadOn)
    (cond (eqb c 17) (given ModifyReadOff)
    (cond (eqb c 18) (given Reset)
    (cond (eqb c 19) (given Nop)
    (refused unassigned)))))))))))))))))))

-- a byte where nothing is awaited
unfoldable pub read_first : Sheet → ℕ → Told Instruction
read_first k b = read_by k (class_of b) b

-- a byte where this is awaited: a second byte is taken whatever its value; where one of the new set is awaited, a register is outside
-- its range
abbrev pub read_of : Sheet → Awaited → ℕ → Told Instruction
read_of k awaited.Nothing b = read_first k b
read_of k awaited.Contrast b = given (ContrastValue (b % 64))
read_of k awaited.Indicator b = given (IndicatorValue (b % 4))
read_of k awaited.Com0 b = refused out_of_range
read_of k awaited.Duty b = refused out_of_range
read_of k awaited.Inversion b = refused out_of_range

-- the assigned bytes are those of a row
unfoldable pub assigned : ℕ → Bool
assigned b = not (eqb (class_of b) 0)

-- an assigned byte with its free bits 0: bits 0 to 2 of C0-CF, and of 10-1F the bit that the counter has no room for
unfoldable pub plain : Sheet → ℕ → ℕ
plain k b = cond (within 0xc0 0xcf b) (b - b % 8) (cond (within 0x10 0x1f b) (0x10 + room_in k.highs (b % 16)) b)

-- no second byte is awaited
abbrev pub nothing_awaited : Awaited → Bool
nothing_awaited awaited.Nothing = true
nothing_awaited awaited.Contrast = false
nothing_awaited awaited.Indicator = false
nothing_awaited awaited.Com0 = false
nothing_awaited awaited.Duty = false
nothing_awaited awaited.Inversion = false

-- what was read, written again; a refusal stays
abbrev pub written_again : Sheet → Option Instruction → ℕ → Told ℕ
written_again k (some i) n = write_of k i
written_again k none n = refused n

abbrev pub again : Sheet → Told Instruction → Told ℕ
again k t = written_again k t.value t.number

-- what is awaited where an instruction's byte is read as it: each second byte is read as one when it is awaited
abbrev pub awaited_for : Instruction → Awaited
awaited_for (ColumnLow v) = awaited.Nothing
awaited_for (ColumnHigh v) = awaited.Nothing
awaited_for (Resistor v) = awaited.Nothing
awaited_for (Power v) = awaited.Nothing
awaited_for (StartLine v) = awaited.Nothing
awaited_for ContrastNext = awaited.Nothing
awaited_for (ContrastValue v) = awaited.Contrast
awaited_for (Adc f) = awaited.Nothing
awaited_for (Bias f) = awaited.Nothing
awaited_for (Entire f) = awaited.Nothing
awaited_for (Reverse f) = awaited.Nothing
awaited_for IndicatorOff = awaited.Nothing
awaited_for IndicatorOn = awaited.Nothing
awaited_for (IndicatorValue v) = awaited.Indicator
awaited_for (Display f) = awaited.Nothing
awaited_for (Page v) = awaited.Nothing
awaited_for (Shl f) = awaited.Nothing
awaited_for ModifyReadOn = awaited.Nothing
awaited_for ModifyReadOff = awaited.Nothing
awaited_for Reset = awaited.Nothing
awaited_for Nop = awaited.Nothing

-- what the reader promises
pub record IsRead (k : Sheet) (a : Awaited) (b : ℕ) (r : Result Instruction Refusal) : Type 0 where
  pub tells : told r ≡ read_of k a b
