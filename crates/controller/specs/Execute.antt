-- What an instruction does to the registers: document 01's column "Effect", row by row, E2's as order 5 has it. And which of them
-- make the next data read a stale one, as order 2 has it.
-- Assumes nothing.
use Rattle.std.specs.Prelude.{ℕ, ◌+◌, ◌*◌, ◌/◌, ◌%◌, Bool, true, false}
use Rattle.paper.specs.declared.sheet.Sheet.{Sheet}
use Rattle.instructions.specs.declared.instruction.Awaited.TheVariants as awaited
use Rattle.instructions.specs.declared.instruction.Instruction.{Instruction}
use Rattle.instructions.specs.declared.instruction.Instruction.TheVariants.{ColumnLow, ColumnHigh, Resistor, Power, StartLine, ContrastNext, ContrastValue, Adc, Bias, Entire, Reverse, IndicatorOff, IndicatorOn, IndicatorValue, Display, Page, Shl, ModifyReadOn, ModifyReadOff, Reset, Nop}
use Rattle.registers.specs.Registers.{column, with_page, with_column, with_start_line, with_contrast, with_resistor, with_power, with_bias, with_adc, with_shl, with_reverse, with_entire, with_on, with_indicator, with_indicator_value, with_modify_read, with_awaited, start}
use Rattle.registers.specs.declared.ModifyRead.{ModifyRead}
use Rattle.registers.specs.declared.ModifyRead.TheVariants.{Off, On}
use Rattle.registers.specs.declared.Registers.{Registers}

-- low and high four bits of column, the other four as they stand
abbrev pub low_set : Registers → ℕ → Registers
low_set r v = with_column r (column (r.column.0 / 16 * 16 + v % 16))

abbrev pub high_set : Registers → ℕ → Registers
high_set r v = with_column r (column (v % 16 * 16 + r.column.0 % 16))

-- modify-read on, saving the column; while it is on nothing changes
abbrev pub saved : Registers → ModifyRead → Registers
saved r Off = with_modify_read r (On r.column)
saved r (On c) = r

-- modify-read off, restoring the column; while it is off nothing changes
abbrev pub restored : Registers → ModifyRead → Registers
restored r Off = r
restored r (On c) = with_modify_read (with_column r c) Off

-- reset: start line, column, page and SHL to 0; the saved column forgotten; the indicator off and its value 0; resistor and contrast
-- to their start values; nothing else
abbrev pub reset : Sheet → Registers → Registers
reset k r =
    let zeroed = with_shl (with_page (with_column (with_start_line r 0) (column 0)) 0) false in
    let forgotten = with_modify_read zeroed Off in
    let unlit = with_indicator_value (with_indicator forgotten false) 0 in
    with_contrast (with_resistor unlit (start k 0 false).resistor) (start k 0 false).contrast

abbrev pub executed : Sheet → Registers → Instruction → Registers
executed k r (ColumnLow v) = low_set r v
executed k r (ColumnHigh v) = high_set r v
executed k r (Resistor v) = with_resistor r v
executed k r (Power v) = with_power r v
executed k r (StartLine v) = with_start_line r v
executed k r ContrastNext = with_awaited r awaited.Contrast
executed k r (ContrastValue v) = with_awaited (with_contrast r v) awaited.Nothing
executed k r (Adc f) = with_adc r f
executed k r (Bias f) = with_bias r f
executed k r (Entire f) = with_entire r f
executed k r (Reverse f) = with_reverse r f
executed k r IndicatorOff = with_indicator r false
executed k r IndicatorOn = with_awaited (with_indicator r true) awaited.Indicator
executed k r (IndicatorValue v) = with_awaited (with_indicator_value r v) awaited.Nothing
executed k r (Display f) = with_on r f
executed k r (Page v) = with_page r v
executed k r (Shl f) = with_shl r f
executed k r ModifyReadOn = saved r r.modify_read
executed k r ModifyReadOff = restored r r.modify_read
executed k r Reset = reset k r
executed k r Nop = r

-- a page or column instruction, E0, EE or E2: a data read after it is stale
abbrev pub ends_reading : Instruction → Bool
ends_reading (ColumnLow v) = true
ends_reading (ColumnHigh v) = true
ends_reading (Resistor v) = false
ends_reading (Power v) = false
ends_reading (StartLine v) = false
ends_reading ContrastNext = false
ends_reading (ContrastValue v) = false
ends_reading (Adc f) = false
ends_reading (Bias f) = false
ends_reading (Entire f) = false
ends_reading (Reverse f) = false
ends_reading IndicatorOff = false
ends_reading IndicatorOn = false
ends_reading (IndicatorValue v) = false
ends_reading (Display f) = false
ends_reading (Page v) = true
ends_reading (Shl f) = false
ends_reading ModifyReadOn = true
ends_reading ModifyReadOff = true
ends_reading Reset = true
ends_reading Nop = false
