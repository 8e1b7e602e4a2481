-- The state: the registers in 32 bytes, each at its offset, the spare ones 0.
-- Assumes nothing.
use Rattle.std.specs.Prelude.{ℕ, Bool, true, false, cond, List, [], ◌∷◌, get_or, eqb}
use Rattle.instructions.specs.declared.instruction.Awaited.{Awaited}
use Rattle.instructions.specs.declared.instruction.Awaited.TheVariants as awaited
use Rattle.instructions.specs.declared.added.CommandSet.{CommandSet}
use Rattle.instructions.specs.declared.added.CommandSet.TheVariants.{Old, New}
pub use Rattle.instructions.specs.Numbers.{awaited_byte, set_byte}
use Rattle.registers.specs.Beside.{besides}
use Rattle.registers.specs.Registers.{regs, column}
use Rattle.registers.specs.declared.Beside.{Beside}
use Rattle.registers.specs.declared.ModifyRead.{ModifyRead}
use Rattle.registers.specs.declared.ModifyRead.TheVariants.{Off, On}
use Rattle.registers.specs.declared.Registers.{Registers}

-- ---- a register as a byte, and back

-- a register of 0 or 1
abbrev pub flag_byte : Bool → ℕ
flag_byte true = 1
flag_byte false = 0

-- modify-read, 0 or 1, and beside it the saved column, 0 while modify-read is 0
abbrev pub modify_byte : ModifyRead → ℕ
modify_byte Off = 0
modify_byte (On c) = 1

abbrev pub saved_byte : ModifyRead → ℕ
saved_byte Off = 0
saved_byte (On c) = c.0

abbrev pub modify_of : ℕ → ℕ → ModifyRead
modify_of b saved = cond (eqb b 1) (On (column saved)) Off

abbrev pub awaited_of : ℕ → Awaited
awaited_of b =
    cond (eqb b 1) awaited.Contrast
    (cond (eqb b 2) awaited.Indicator
    (cond (eqb b 3) awaited.Com0
    (cond (eqb b 4) awaited.Duty
    (cond (eqb b 5) awaited.Inversion
    awaited.Nothing))))

abbrev pub set_of : ℕ → CommandSet
set_of b = cond (eqb b 1) New Old

-- ---- the whole state

-- page 0, column 1, start line 2, contrast 3, resistor 4, power 5, bias 6, ADC 7, SHL 8, reverse 9, entire 10, on 11, indicator 12,
-- indicator value 13, holder 14, pin low 15, modify-read 16, saved column 17, awaited 18, fresh 19, command set 20, initial COM0 21,
-- duty 22, inversion 23, and 24 to 31 spare
unfoldable pub packed : Registers → List ℕ
packed r =
    r.page ∷ r.column.0 ∷ r.start_line ∷ r.contrast ∷ r.resistor ∷ r.power
    ∷ flag_byte r.bias ∷ flag_byte r.adc ∷ flag_byte r.shl ∷ flag_byte r.reverse ∷ flag_byte r.entire ∷ flag_byte r.on
    ∷ flag_byte r.indicator ∷ r.indicator_value ∷ r.holder ∷ flag_byte r.pin_low
    ∷ modify_byte r.modify_read ∷ saved_byte r.modify_read ∷ awaited_byte r.awaited ∷ flag_byte r.fresh
    ∷ set_byte r.beside.set ∷ r.beside.com0 ∷ r.beside.duty ∷ r.beside.inversion
    ∷ 0 ∷ 0 ∷ 0 ∷ 0 ∷ 0 ∷ 0 ∷ 0 ∷ 0 ∷ []

abbrev pub beside_of : List ℕ → Beside
beside_of b = besides (set_of (get_or b 20 0)) (get_or b 21 0) (get_or b 22 0) (get_or b 23 0)

unfoldable pub unpacked : List ℕ → Registers
unpacked b =
    regs (get_or b 0 0) (column (get_or b 1 0)) (get_or b 2 0) (get_or b 3 0) (get_or b 4 0) (get_or b 5 0)
    (eqb (get_or b 6 0) 1) (eqb (get_or b 7 0) 1) (eqb (get_or b 8 0) 1) (eqb (get_or b 9 0) 1) (eqb (get_or b 10 0) 1) (eqb (get_or b 11 0) 1)
    (eqb (get_or b 12 0) 1) (get_or b 13 0) (get_or b 14 0) (eqb (get_or b 15 0) 1) (modify_of (get_or b 16 0) (get_or b 17 0)) (awaited_of (get_or b 18 0))
    (eqb (get_or b 19 0) 1) (beside_of b)
