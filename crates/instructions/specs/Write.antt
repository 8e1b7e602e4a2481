-- What an instruction is written as: document 01's table, row by row.
-- Assumes nothing.
use Rattle.std.specs.Prelude.{ℕ, ◌+◌, ◌≤◌, ◌≡◌, Bool, cond, ltb, Result}
use Rattle.paper.specs.Refusal.{outside_field}
use Rattle.paper.specs.Told.{Told, given, refused, told}
use Rattle.paper.specs.declared.refusal.Refusal.{Refusal}
use Rattle.paper.specs.declared.sheet.Sheet.{Sheet}
use Rattle.instructions.specs.declared.instruction.Instruction.{Instruction}
use Rattle.instructions.specs.declared.instruction.Instruction.TheVariants.{ColumnLow, ColumnHigh, Resistor, Power, StartLine, ContrastNext, ContrastValue, Adc, Bias, Entire, Reverse, IndicatorOff, IndicatorOn, IndicatorValue, Display, Page, Shl, ModifyReadOn, ModifyReadOff, Reset, Nop}

-- a value in the field of `count` values that starts at byte `base`
unfoldable pub field_of : ℕ → ℕ → ℕ → Told ℕ
field_of base count v = cond (ltb v count) (given (base + v)) (refused outside_field)

-- one of two bytes, by a flag
unfoldable pub flag_of : ℕ → ℕ → Bool → Told ℕ
flag_of off on f = cond f (given on) (given off)

-- the table: free bits are 0, and each second byte is an instruction of its own
abbrev pub write_of : Sheet → Instruction → Told ℕ
write_of k (ColumnLow v) = field_of 0x00 16 v
write_of k (ColumnHigh v) = field_of 0x10 k.highs v
write_of k (Resistor v) = field_of 0x20 8 v
write_of k (Power v) = field_of 0x28 8 v
write_of k (StartLine v) = field_of 0x40 64 v
write_of k ContrastNext = given 0x81
write_of k (ContrastValue v) = field_of 0x00 64 v
write_of k (Adc f) = flag_of 0xa0 0xa1 f
write_of k (Bias f) = flag_of 0xa2 0xa3 f
write_of k (Entire f) = flag_of 0xa4 0xa5 f
write_of k (Reverse f) = flag_of 0xa6 0xa7 f
write_of k IndicatorOff = given 0xac
write_of k IndicatorOn = given 0xad
write_of k (IndicatorValue v) = field_of 0x00 4 v
write_of k (Display f) = flag_of 0xae 0xaf f
write_of k (Page v) = field_of 0xb0 16 v
write_of k (Shl f) = flag_of 0xc0 0xc8 f
write_of k ModifyReadOn = given 0xe0
write_of k ModifyReadOff = given 0xee
write_of k Reset = given 0xe2
write_of k Nop = given 0xe3

-- a value to write is outside its field, row by row, by how many values the field has: for the high four bits of column as many as
-- the counter has room for. A flag and an instruction without a value never are
abbrev pub OutsideField : Sheet → Instruction → Type 0
OutsideField k (ColumnLow v) = 16 ≤ v
OutsideField k (ColumnHigh v) = k.highs ≤ v
OutsideField k (Resistor v) = 8 ≤ v
OutsideField k (Power v) = 8 ≤ v
OutsideField k (StartLine v) = 64 ≤ v
OutsideField k ContrastNext = ⊥
OutsideField k (ContrastValue v) = 64 ≤ v
OutsideField k (Adc f) = ⊥
OutsideField k (Bias f) = ⊥
OutsideField k (Entire f) = ⊥
OutsideField k (Reverse f) = ⊥
OutsideField k IndicatorOff = ⊥
OutsideField k IndicatorOn = ⊥
OutsideField k (IndicatorValue v) = 4 ≤ v
OutsideField k (Display f) = ⊥
OutsideField k (Page v) = 16 ≤ v
OutsideField k (Shl f) = ⊥
OutsideField k ModifyReadOn = ⊥
OutsideField k ModifyReadOff = ⊥
OutsideField k Reset = ⊥
OutsideField k Nop = ⊥

-- what the writer promises
pub record IsWritten (k : Sheet) (i : Instruction) (a : Result ℕ Refusal) : Type 0 where
  pub tells : told a ≡ write_of k i
