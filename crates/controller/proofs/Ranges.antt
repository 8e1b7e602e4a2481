-- Every cycle keeps the sheet's registers in range, the memory's length, and, pin cycles aside, the pin. `Keeping` has the same of what
-- stands beside them.
-- Assumes nothing.
use Prim.Native.Nat.{ℕ, ◌+◌, ◌*◌, ◌≤◌, ◌<◌}
use mathlib.Core.Path.{◌≡◌, refl, sym, subst}
use mathlib.Core.Bool.{Bool, true, false, cond, not}
use mathlib.Core.Option.{Option, none, some}
use mathlib.Core.List.{List}
use native.Mathlib.Omega.{arith}
use lib.ListN.{length}
use lib.Dec.{ltb, eqb}
use borrow.Author.Tests.{ltb-true, eqb-true, not-false}
use Rattle.paper.specs.Refusal.{wrong_size}
use Rattle.paper.specs.Sheet.{Sensible}
use Rattle.paper.specs.declared.sheet.Sheet.{Sheet}
use Rattle.paper.proofs.Cases.{chosen}
use Rattle.paper.proofs.Exactly.{past}
use Rattle.instructions.specs.Write.{write_of}
use Rattle.instructions.specs.Read.{read_of}
use Rattle.instructions.specs.Added.{of_other, read_added}
use Rattle.instructions.specs.declared.added.Added.{Added}
use Rattle.instructions.specs.declared.added.CommandSet.TheVariants.{Old}
use Rattle.instructions.specs.declared.instruction.Awaited.{Awaited}
use Rattle.instructions.specs.declared.instruction.Instruction.{Instruction}
use Rattle.instructions.specs.declared.instruction.Instruction.TheVariants.{ColumnLow, ColumnHigh, Resistor, Power, StartLine, ContrastNext, ContrastValue, Adc, Bias, Entire, Reverse, IndicatorOff, IndicatorOn, IndicatorValue, Display, Page, Shl, ModifyReadOn, ModifyReadOff, Reset, Nop}
use Rattle.instructions.proofs.Fields.{in_field}
use Rattle.instructions.proofs.Fits.{Fits, Proper, read_proper}
use Rattle.registers.specs.Registers.{saved_of, with_awaited, with_fresh, with_beside, Ranged}
use Rattle.registers.specs.declared.Beside.{Beside}
use Rattle.registers.specs.declared.ModifyRead.{ModifyRead}
use Rattle.registers.specs.declared.ModifyRead.TheVariants.{Off, On}
use Rattle.registers.specs.declared.Registers.{Registers}
use Rattle.controller.specs.Execute.{saved, restored, executed}
use Rattle.controller.specs.Memory.{advanced}
use Rattle.controller.specs.Cycle.{Outcome, written, after_read, instructed_by, instructed_added_by, carried, kept, refusal, answer, memory_after}
use Rattle.controller.specs.State.{after_by}
use Rattle.controller.proofs.Cells.{stored_length}
use Rattle.controller.proofs.Sets.{in_either, added_moves}

-- ---- bounds that the code asks for

-- what bounds both bounds the one that is chosen
pub cond_le : (b : Bool) (x y n : ℕ) → x ≤ n → y ≤ n → cond b x y ≤ n
cond_le b x y n p q = chosen (λ (z : ℕ). z ≤ n) b p q

-- where nothing is refused the memory is nine pages long
pub long : (k : Sheet) (n : ℕ) (r : Registers) (kind value : ℕ) → refusal k n r kind value ≡ 0 → n ≡ 9 * k.width
unfolding refusal
long k n r kind value e =
    let t = eqb n (9 * k.width) in
    eqb-true n (9 * k.width) (not-false t ((past (not t) wrong_size _ 0 (λ z. omega arith)).0 e).0)

-- ---- an instruction inside its fields

saved_ranged : (k : Sheet) (r : Registers) (m : ModifyRead) → Ranged k r → Ranged k (saved r m)
saved_ranged k r Off h = omega arith
saved_ranged k r (On c) h = h

restored_ranged : (k : Sheet) (r : Registers) (m : ModifyRead) → saved_of m < k.highs * 16 → Ranged k r → Ranged k (restored r m)
restored_ranged k r Off l h = h
restored_ranged k r (On c) l h = omega arith

pub executed_ranged : (k : Sheet) → Sensible k → (r : Registers) (i : Instruction) → Fits k i → Ranged k r → Ranged k (executed k r i)
executed_ranged k g r (ColumnLow v) f h = omega arith
executed_ranged k g r (ColumnHigh v) f h = omega (arith, in_field 0x10 k.highs v f)
executed_ranged k g r (Resistor v) f h = omega (arith, in_field 0x20 8 v f)
executed_ranged k g r (Power v) f h = omega (arith, in_field 0x28 8 v f)
executed_ranged k g r (StartLine v) f h = omega (arith, in_field 0x40 64 v f)
executed_ranged k g r ContrastNext f h = omega arith
executed_ranged k g r (ContrastValue v) f h = omega (arith, in_field 0x00 64 v f)
executed_ranged k g r (Adc x) f h = omega arith
executed_ranged k g r (Bias x) f h = omega arith
executed_ranged k g r (Entire x) f h = omega arith
executed_ranged k g r (Reverse x) f h = omega arith
executed_ranged k g r IndicatorOff f h = omega arith
executed_ranged k g r IndicatorOn f h = omega arith
executed_ranged k g r (IndicatorValue v) f h = omega (arith, in_field 0x00 4 v f)
executed_ranged k g r (Display x) f h = omega arith
executed_ranged k g r (Page v) f h = omega (arith, in_field 0xb0 16 v f)
executed_ranged k g r (Shl x) f h = omega arith
executed_ranged k g r ModifyReadOn f h = saved_ranged k r r.modify_read h
executed_ranged k g r ModifyReadOff f h = restored_ranged k r r.modify_read h.saved h
executed_ranged k g r Reset f h = omega (arith, g.high, g.first)
executed_ranged k g r Nop f h = h

-- no instruction moves the pin; and what is awaited after one of the old set is of that set, or what was
abbrev pub Leaves : Registers → Registers → Type 0
Leaves r n = (n.pin_low ≡ r.pin_low) × (of_other Old r.awaited ≡ false → of_other Old n.awaited ≡ false)

saved_leaves : (r : Registers) (m : ModifyRead) → Leaves r (saved r m)
saved_leaves r Off = (refl, λ e. e)
saved_leaves r (On c) = (refl, λ e. e)

restored_leaves : (r : Registers) (m : ModifyRead) → Leaves r (restored r m)
restored_leaves r Off = (refl, λ e. e)
restored_leaves r (On c) = (refl, λ e. e)

pub executed_leaves : (k : Sheet) (r : Registers) (i : Instruction) → Leaves r (executed k r i)
executed_leaves k r (ColumnLow v) = (refl, λ e. e)
executed_leaves k r (ColumnHigh v) = (refl, λ e. e)
executed_leaves k r (Resistor v) = (refl, λ e. e)
executed_leaves k r (Power v) = (refl, λ e. e)
executed_leaves k r (StartLine v) = (refl, λ e. e)
executed_leaves k r ContrastNext = (refl, λ e. refl)
executed_leaves k r (ContrastValue v) = (refl, λ e. refl)
executed_leaves k r (Adc x) = (refl, λ e. e)
executed_leaves k r (Bias x) = (refl, λ e. e)
executed_leaves k r (Entire x) = (refl, λ e. e)
executed_leaves k r (Reverse x) = (refl, λ e. e)
executed_leaves k r IndicatorOff = (refl, λ e. e)
executed_leaves k r IndicatorOn = (refl, λ e. refl)
executed_leaves k r (IndicatorValue v) = (refl, λ e. refl)
executed_leaves k r (Display x) = (refl, λ e. e)
executed_leaves k r (Page v) = (refl, λ e. e)
executed_leaves k r (Shl x) = (refl, λ e. e)
executed_leaves k r ModifyReadOn = saved_leaves r r.modify_read
executed_leaves k r ModifyReadOff = restored_leaves r r.modify_read
executed_leaves k r Reset = (refl, λ e. e)
executed_leaves k r Nop = (refl, λ e. e)

-- ---- a whole cycle

-- the mark has no range
pub marked_ranged : (k : Sheet) (r : Registers) (f : Bool) → Ranged k r → Ranged k (with_fresh r f)
marked_ranged k r f h = omega arith

instructed_ranged : (k : Sheet) → Sensible k → (r : Registers) (n : ℕ) (x : Option Instruction) → Proper (write_of k) n x → Ranged k r
    → Ranged k (after_by r (instructed_by k r n x).registers)
instructed_ranged k g r n (some i) f h = marked_ranged k _ _ (executed_ranged k g r i f.1 h)
instructed_ranged k g r n none f h = h

-- what the new set moves has no range of the sheet's
beside_ranged : (k : Sheet) (r : Registers) (a : Awaited) (b : Beside) → Ranged k r → Ranged k (with_beside (with_awaited r a) b)
beside_ranged k r a b h = omega arith

added_ranged : (k : Sheet) (r : Registers) (n : ℕ) (x : Option Added) → Ranged k r → Ranged k (after_by r (instructed_added_by r n x).registers)
added_ranged k r n (some i) h = subst (Ranged k) (sym (added_moves r i)) (beside_ranged k r _ _ h)
added_ranged k r n none h = h

advanced_by : (w c d : ℕ) (t : Bool) → ltb c w ≡ t → w < d → c < d → cond t (c + 1) c < d
advanced_by w c d true e l h = omega (arith, ltb-true c w e)
advanced_by w c d false e l h = h

-- the column stays below any bound above the width
pub advanced_in : (w c d : ℕ) → w < d → c < d → advanced w c < d
unfolding advanced
advanced_in w c d l h = advanced_by w c d (ltb c w) refl l h

written_ranged : (k : Sheet) → Sensible k → (r : Registers) (b : ℕ) → Ranged k r → Ranged k (written k.width r b)
unfolding written
written_ranged k g r b h = omega (arith, advanced_in k.width r.column.0 (k.highs * 16) g.wide h.column)

read_ranged : (k : Sheet) → Sensible k → (r : Registers) (m : ModifyRead) (b : ℕ) → Ranged k r → Ranged k (after_read k.width r m b)
read_ranged k g r Off b h = written_ranged k g r b h
read_ranged k g r (On c) b h = omega arith

-- a cycle leaves the sheet's registers in range
pub stays_ranged : (k : Sheet) → Sensible k → (r : Registers) (m : List ℕ) (kind value : ℕ) → Ranged k r
    → Ranged k (after_by r (answer k r m kind value).registers)
unfolding answer carried
stays_ranged k g r m kind value h =
    let P : Outcome → Type 0 = λ o. Ranged k (after_by r o.registers) in
    chosen P (eqb (refusal k (length m) r kind value) 0)
    (chosen P (eqb kind 0)
    (in_either P k r value
    (instructed_ranged k g r _ (read_of k r.awaited value).value (read_proper k g r.awaited value) h)
    (added_ranged k r _ (read_added r.awaited value).value h)
    r.beside.set)
    (chosen P (eqb kind 1) (marked_ranged k _ false (written_ranged k g r value h))
    (chosen P (eqb kind 2) h
    (chosen P (eqb kind 3) (marked_ranged k _ true (read_ranged k g r r.modify_read _ h))
    (chosen P (eqb kind 4) (omega (arith, g.wide, g.first)) (omega arith))))))
    h

-- and the memory as long as it was
pub stays_long : (k : Sheet) (r : Registers) (m : List ℕ) (kind value : ℕ) → length (memory_after k r m kind value) ≡ length m
unfolding memory_after kept
stays_long k r m kind value =
    let P : List ℕ → Type 0 = λ l. length l ≡ length m in
    chosen P (eqb (refusal k (length m) r kind value) 0)
    (chosen P (eqb kind 1) (stored_length k.width m r.page r.column.0 value) refl)
    refl
