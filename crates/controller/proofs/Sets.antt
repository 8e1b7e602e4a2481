-- The two command sets: what an instruction of each leaves alone, and what holds of an instruction byte because it holds in each set.
-- Assumes nothing.
use Prim.Native.Nat.{ℕ}
use mathlib.Core.Path.{◌≡◌, refl, ap}
use Rattle.paper.specs.declared.sheet.Sheet.{Sheet}
use Rattle.instructions.specs.Added.{read_added}
use Rattle.instructions.specs.Read.{read_of}
use Rattle.instructions.specs.declared.added.Added.{Added}
use Rattle.instructions.specs.declared.added.Added.TheVariants.{Com0Next, Com0Value, DutyNext, DutyValue, InversionNext, InversionValue, FrameInversion}
use Rattle.instructions.specs.declared.added.CommandSet.{CommandSet}
use Rattle.instructions.specs.declared.added.CommandSet.TheVariants.{Old, New}
use Rattle.instructions.specs.declared.instruction.Instruction.{Instruction}
use Rattle.instructions.specs.declared.instruction.Instruction.TheVariants.{ColumnLow, ColumnHigh, Resistor, Power, StartLine, ContrastNext, ContrastValue, Adc, Bias, Entire, Reverse, IndicatorOff, IndicatorOn, IndicatorValue, Display, Page, Shl, ModifyReadOn, ModifyReadOff, Reset, Nop}
use Rattle.registers.specs.Registers.{with_awaited, with_beside}
use Rattle.registers.specs.declared.Beside.{Beside}
use Rattle.registers.specs.declared.ModifyRead.{ModifyRead}
use Rattle.registers.specs.declared.ModifyRead.TheVariants.{Off, On}
use Rattle.registers.specs.declared.Registers.{Registers}
use Rattle.controller.specs.Execute.{saved, restored, executed}
use Rattle.controller.specs.Added.{executed_added}
use Rattle.controller.specs.Cycle.{Outcome, instructed, instructed_added, instructed_in}

-- ---- an instruction byte, in either set

pub in_either : (P : Outcome → Type 0) (k : Sheet) (r : Registers) (value : ℕ) → P (instructed k r (read_of k r.awaited value))
    → P (instructed_added r (read_added r.awaited value)) → (set : CommandSet) → P (instructed_in k r value set)
in_either P k r value p q Old = p
in_either P k r value p q New = q

-- ---- an instruction of the new set moves what is awaited and what stands beside, and nothing else

pub added_moves : (r : Registers) (i : Added) → executed_added r i ≡ with_beside (with_awaited r (executed_added r i).awaited) (executed_added r i).beside
added_moves r Com0Next = refl
added_moves r (Com0Value v) = refl
added_moves r DutyNext = refl
added_moves r (DutyValue v) = refl
added_moves r InversionNext = refl
added_moves r (InversionValue v) = refl
added_moves r FrameInversion = refl

-- and the set stays
pub added_set : (r : Registers) (i : Added) → (executed_added r i).beside.set ≡ r.beside.set
added_set r Com0Next = refl
added_set r (Com0Value v) = refl
added_set r DutyNext = refl
added_set r (DutyValue v) = refl
added_set r InversionNext = refl
added_set r (InversionValue v) = refl
added_set r FrameInversion = refl

-- ---- an instruction of the old set does the same whatever stands beside, and leaves it

saved_with : (r : Registers) (x : Beside) (m : ModifyRead) → saved (with_beside r x) m ≡ with_beside (saved r m) x
saved_with r x Off = refl
saved_with r x (On c) = refl

restored_with : (r : Registers) (x : Beside) (m : ModifyRead) → restored (with_beside r x) m ≡ with_beside (restored r m) x
restored_with r x Off = refl
restored_with r x (On c) = refl

pub executed_with : (k : Sheet) (r : Registers) (x : Beside) (i : Instruction) → executed k (with_beside r x) i ≡ with_beside (executed k r i) x
executed_with k r x (ColumnLow v) = refl
executed_with k r x (ColumnHigh v) = refl
executed_with k r x (Resistor v) = refl
executed_with k r x (Power v) = refl
executed_with k r x (StartLine v) = refl
executed_with k r x ContrastNext = refl
executed_with k r x (ContrastValue v) = refl
executed_with k r x (Adc f) = refl
executed_with k r x (Bias f) = refl
executed_with k r x (Entire f) = refl
executed_with k r x (Reverse f) = refl
executed_with k r x IndicatorOff = refl
executed_with k r x IndicatorOn = refl
executed_with k r x (IndicatorValue v) = refl
executed_with k r x (Display f) = refl
executed_with k r x (Page v) = refl
executed_with k r x (Shl f) = refl
executed_with k r x ModifyReadOn = saved_with r x r.modify_read
executed_with k r x ModifyReadOff = restored_with r x r.modify_read
executed_with k r x Reset = refl
executed_with k r x Nop = refl

pub executed_beside : (k : Sheet) (r : Registers) (i : Instruction) → (executed k r i).beside ≡ r.beside
executed_beside k r i = ap (λ n. n.beside) (executed_with k r r.beside i)
