-- The registers: a setter for each, their start values and their ranges.
-- Assumes nothing.
use Rattle.std.specs.Prelude.{ℕ, ◌*◌, ◌<◌, ◌≡◌, Bool, true, false, ◌||◌, ltb, leb}
use Rattle.paper.specs.declared.sheet.Sheet.{Sheet}
use Rattle.instructions.specs.declared.added.CommandSet.{CommandSet}
use Rattle.instructions.specs.declared.added.CommandSet.TheVariants.{Old}
use Rattle.instructions.specs.declared.instruction.Awaited.{Awaited}
use Rattle.instructions.specs.declared.instruction.Awaited.TheVariants.{Nothing}
use Rattle.registers.specs.Beside.{besides, start_beside, outside_beside}
use Rattle.registers.specs.declared.Beside.{Beside}
use Rattle.registers.specs.declared.Column.{Column}
use Rattle.registers.specs.declared.ModifyRead.{ModifyRead}
use Rattle.registers.specs.declared.ModifyRead.TheVariants.{Off, On}
use Rattle.registers.specs.declared.Registers.{Registers}

abbrev pub column : ℕ → Column
column c = record { 0 = c }

-- ---- the registers from their values, in the order of the struct, and with one of them set anew

abbrev pub regs : ℕ → Column → ℕ → ℕ → ℕ → ℕ → Bool → Bool → Bool → Bool → Bool → Bool → Bool → ℕ → ℕ → Bool → ModifyRead → Awaited → Bool → Beside → Registers
regs page column start_line contrast resistor power bias adc shl reverse entire on indicator indicator_value holder pin_low modify_read awaited fresh beside =
    record { page = page; column = column; start_line = start_line; contrast = contrast; resistor = resistor; power = power; bias = bias; adc = adc; shl = shl; reverse = reverse; entire = entire; on = on; indicator = indicator; indicator_value = indicator_value; holder = holder; pin_low = pin_low; modify_read = modify_read; awaited = awaited; fresh = fresh; beside = beside }

abbrev pub with_page : Registers → ℕ → Registers
with_page r v = regs v r.column r.start_line r.contrast r.resistor r.power r.bias r.adc r.shl r.reverse r.entire r.on r.indicator r.indicator_value r.holder r.pin_low r.modify_read r.awaited r.fresh r.beside

abbrev pub with_column : Registers → Column → Registers
with_column r v = regs r.page v r.start_line r.contrast r.resistor r.power r.bias r.adc r.shl r.reverse r.entire r.on r.indicator r.indicator_value r.holder r.pin_low r.modify_read r.awaited r.fresh r.beside

abbrev pub with_start_line : Registers → ℕ → Registers
with_start_line r v = regs r.page r.column v r.contrast r.resistor r.power r.bias r.adc r.shl r.reverse r.entire r.on r.indicator r.indicator_value r.holder r.pin_low r.modify_read r.awaited r.fresh r.beside

abbrev pub with_contrast : Registers → ℕ → Registers
with_contrast r v = regs r.page r.column r.start_line v r.resistor r.power r.bias r.adc r.shl r.reverse r.entire r.on r.indicator r.indicator_value r.holder r.pin_low r.modify_read r.awaited r.fresh r.beside

abbrev pub with_resistor : Registers → ℕ → Registers
with_resistor r v = regs r.page r.column r.start_line r.contrast v r.power r.bias r.adc r.shl r.reverse r.entire r.on r.indicator r.indicator_value r.holder r.pin_low r.modify_read r.awaited r.fresh r.beside

abbrev pub with_power : Registers → ℕ → Registers
with_power r v = regs r.page r.column r.start_line r.contrast r.resistor v r.bias r.adc r.shl r.reverse r.entire r.on r.indicator r.indicator_value r.holder r.pin_low r.modify_read r.awaited r.fresh r.beside

abbrev pub with_bias : Registers → Bool → Registers
with_bias r v = regs r.page r.column r.start_line r.contrast r.resistor r.power v r.adc r.shl r.reverse r.entire r.on r.indicator r.indicator_value r.holder r.pin_low r.modify_read r.awaited r.fresh r.beside

abbrev pub with_adc : Registers → Bool → Registers
with_adc r v = regs r.page r.column r.start_line r.contrast r.resistor r.power r.bias v r.shl r.reverse r.entire r.on r.indicator r.indicator_value r.holder r.pin_low r.modify_read r.awaited r.fresh r.beside

abbrev pub with_shl : Registers → Bool → Registers
with_shl r v = regs r.page r.column r.start_line r.contrast r.resistor r.power r.bias r.adc v r.reverse r.entire r.on r.indicator r.indicator_value r.holder r.pin_low r.modify_read r.awaited r.fresh r.beside

abbrev pub with_reverse : Registers → Bool → Registers
with_reverse r v = regs r.page r.column r.start_line r.contrast r.resistor r.power r.bias r.adc r.shl v r.entire r.on r.indicator r.indicator_value r.holder r.pin_low r.modify_read r.awaited r.fresh r.beside

abbrev pub with_entire : Registers → Bool → Registers
with_entire r v = regs r.page r.column r.start_line r.contrast r.resistor r.power r.bias r.adc r.shl r.reverse v r.on r.indicator r.indicator_value r.holder r.pin_low r.modify_read r.awaited r.fresh r.beside

abbrev pub with_on : Registers → Bool → Registers
with_on r v = regs r.page r.column r.start_line r.contrast r.resistor r.power r.bias r.adc r.shl r.reverse r.entire v r.indicator r.indicator_value r.holder r.pin_low r.modify_read r.awaited r.fresh r.beside

abbrev pub with_indicator : Registers → Bool → Registers
with_indicator r v = regs r.page r.column r.start_line r.contrast r.resistor r.power r.bias r.adc r.shl r.reverse r.entire r.on v r.indicator_value r.holder r.pin_low r.modify_read r.awaited r.fresh r.beside

abbrev pub with_indicator_value : Registers → ℕ → Registers
with_indicator_value r v = regs r.page r.column r.start_line r.contrast r.resistor r.power r.bias r.adc r.shl r.reverse r.entire r.on r.indicator v r.holder r.pin_low r.modify_read r.awaited r.fresh r.beside

abbrev pub with_holder : Registers → ℕ → Registers
with_holder r v = regs r.page r.column r.start_line r.contrast r.resistor r.power r.bias r.adc r.shl r.reverse r.entire r.on r.indicator r.indicator_value v r.pin_low r.modify_read r.awaited r.fresh r.beside

abbrev pub with_pin_low : Registers → Bool → Registers
with_pin_low r v = regs r.page r.column r.start_line r.contrast r.resistor r.power r.bias r.adc r.shl r.reverse r.entire r.on r.indicator r.indicator_value r.holder v r.modify_read r.awaited r.fresh r.beside

abbrev pub with_modify_read : Registers → ModifyRead → Registers
with_modify_read r v = regs r.page r.column r.start_line r.contrast r.resistor r.power r.bias r.adc r.shl r.reverse r.entire r.on r.indicator r.indicator_value r.holder r.pin_low v r.awaited r.fresh r.beside

abbrev pub with_awaited : Registers → Awaited → Registers
with_awaited r v = regs r.page r.column r.start_line r.contrast r.resistor r.power r.bias r.adc r.shl r.reverse r.entire r.on r.indicator r.indicator_value r.holder r.pin_low r.modify_read v r.fresh r.beside

abbrev pub with_fresh : Registers → Bool → Registers
with_fresh r v = regs r.page r.column r.start_line r.contrast r.resistor r.power r.bias r.adc r.shl r.reverse r.entire r.on r.indicator r.indicator_value r.holder r.pin_low r.modify_read r.awaited v r.beside

abbrev pub with_beside : Registers → Beside → Registers
with_beside r v = regs r.page r.column r.start_line r.contrast r.resistor r.power r.bias r.adc r.shl r.reverse r.entire r.on r.indicator r.indicator_value r.holder r.pin_low r.modify_read r.awaited r.fresh v

-- the four beside, one by one
abbrev pub with_set : Registers → CommandSet → Registers
with_set r v = with_beside r (besides v r.beside.com0 r.beside.duty r.beside.inversion)

abbrev pub with_com0 : Registers → ℕ → Registers
with_com0 r v = with_beside r (besides r.beside.set v r.beside.duty r.beside.inversion)

abbrev pub with_duty : Registers → ℕ → Registers
with_duty r v = with_beside r (besides r.beside.set r.beside.com0 v r.beside.inversion)

abbrev pub with_inversion : Registers → ℕ → Registers
with_inversion r v = with_beside r (besides r.beside.set r.beside.com0 r.beside.duty v)

-- ---- start values

-- 0 and off, except contrast 32 and the resistor as the chip has it; in the old command set; with the holder and the pin as given
abbrev pub start : Sheet → ℕ → Bool → Registers
start k holder low = regs 0 (column 0) 0 32 k.resistor 0 false false false false false false false 0 holder low Off Nothing false (start_beside Old)

-- power-up: pin low then high, holder 0
pub record PoweredUp (k : Sheet) (r : Registers) : Type 0 where
  pub tells : r ≡ with_pin_low (start k 0 true) false

-- the same in a command set
pub record PoweredUpIn (k : Sheet) (set : CommandSet) (r : Registers) : Type 0 where
  pub tells : r ≡ with_set (with_pin_low (start k 0 true) false) set

-- ---- ranges

-- the saved column, 0 where there is none
abbrev pub saved_of : ModifyRead → ℕ
saved_of Off = 0
saved_of (On c) = c.0

-- a register is outside its range: page 0..15; column, saved or not, what the counter holds; start line and contrast 0..63;
-- resistor and power 0..7; indicator value 0..3; and what stands beside them. A register of 0 or 1 and the holder never are
unfoldable pub outside : Sheet → Registers → Bool
outside k r =
    ltb 15 r.page || leb (k.highs * 16) r.column.0 || ltb 63 r.start_line || ltb 63 r.contrast
    || ltb 7 r.resistor || ltb 7 r.power || ltb 3 r.indicator_value || leb (k.highs * 16) (saved_of r.modify_read)
    || outside_beside r.awaited r.beside

-- those of the sheet, range by range
pub record Ranged (k : Sheet) (r : Registers) : Type 0 where
  pub page : r.page < 16
  pub column : r.column.0 < k.highs * 16
  pub start_line : r.start_line < 64
  pub contrast : r.contrast < 64
  pub resistor : r.resistor < 8
  pub power : r.power < 8
  pub indicator_value : r.indicator_value < 4
  pub saved : saved_of r.modify_read < k.highs * 16
