-- What fresh means: after any cycles from power-up, where the mark is fresh the holder is the cell on which the data read before stood, as
-- the memory holds it now. Every cycle that would break this is on order 2's list and makes the mark stale; and only a data read, which loads the
-- holder, makes it fresh again.
-- Assumes nothing.
use Prim.Native.Nat.{ℕ}
use mathlib.Core.Path.{◌≡◌, ◌∙◌, refl, sym, subst}
use mathlib.Core.Logic.{inl, inr}
use mathlib.Core.Bool.{true, false, false≢true}
use mathlib.Core.Option.{Option, none, some}
use mathlib.Core.List.{List, [], ◌∷◌}
use lib.ListN.{length}
use lib.Dec.{eqb}
use borrow.Author.Tests.{eqb-true}
use Rattle.paper.specs.declared.sheet.Sheet.{Sheet}
use Rattle.paper.proofs.Cases.{chosen, split}
use Rattle.instructions.specs.Read.{read_of}
use Rattle.instructions.specs.Added.{read_added}
use Rattle.instructions.specs.declared.added.Added.{Added}
use Rattle.instructions.specs.declared.instruction.Instruction.{Instruction}
use Rattle.instructions.specs.declared.instruction.Instruction.TheVariants.{ColumnLow, ColumnHigh, Resistor, Power, StartLine, ContrastNext, ContrastValue, Adc, Bias, Entire, Reverse, IndicatorOff, IndicatorOn, IndicatorValue, Display, Page, Shl, ModifyReadOn, ModifyReadOff, Reset, Nop}
use Rattle.registers.specs.Registers.{with_fresh}
use Rattle.registers.specs.declared.ModifyRead.{ModifyRead}
use Rattle.registers.specs.declared.ModifyRead.TheVariants.{Off, On}
use Rattle.registers.specs.declared.Registers.{Registers}
use Rattle.controller.specs.Memory.{loaded}
use Rattle.controller.specs.Cycle.{Outcome, written, after_read, after_instruction, instructed_by, instructed_added_by, refusal, carried, kept, answer, memory_after}
use Rattle.controller.specs.Run.{BusCycle}
use Rattle.controller.specs.State.{State, state, after_by, step, run, powered_up}
use Rattle.controller.specs.ReadBack.{HoldsCell}
use Rattle.controller.proofs.Sets.{in_either, added_moves}

-- where the mark is fresh
abbrev Backed : Sheet → State → Type 0
Backed k s = s.registers.fresh ≡ true → HoldsCell k s

module _ (k : Sheet) (r : Registers) (m : List ℕ) (h : Backed k (state r m)) where
  -- other registers with the same page, column and holder
  same_place : (n : Registers) → n.page ≡ r.page → n.column ≡ r.column → n.holder ≡ r.holder → HoldsCell k (state r m) → HoldsCell k (state n m)
  same_place n p c e q = record { column = q.column; cell = rw (p, e) q.cell; near = rw c q.near }

  stale : {s : State} → s.registers.fresh ≡ false → Backed k s
  stale e f = absurd (false≢true (sym e ∙ f))

  instruction_backed : (i : Instruction) → Backed k (state (after_instruction k r i) m)
  instruction_backed (ColumnLow v) = stale refl
  instruction_backed (ColumnHigh v) = stale refl
  instruction_backed (Resistor v) = λ f. same_place _ refl refl refl (h f)
  instruction_backed (Power v) = λ f. same_place _ refl refl refl (h f)
  instruction_backed (StartLine v) = λ f. same_place _ refl refl refl (h f)
  instruction_backed ContrastNext = λ f. same_place _ refl refl refl (h f)
  instruction_backed (ContrastValue v) = λ f. same_place _ refl refl refl (h f)
  instruction_backed (Adc x) = λ f. same_place _ refl refl refl (h f)
  instruction_backed (Bias x) = λ f. same_place _ refl refl refl (h f)
  instruction_backed (Entire x) = λ f. same_place _ refl refl refl (h f)
  instruction_backed (Reverse x) = λ f. same_place _ refl refl refl (h f)
  instruction_backed IndicatorOff = λ f. same_place _ refl refl refl (h f)
  instruction_backed IndicatorOn = λ f. same_place _ refl refl refl (h f)
  instruction_backed (IndicatorValue v) = λ f. same_place _ refl refl refl (h f)
  instruction_backed (Display x) = λ f. same_place _ refl refl refl (h f)
  instruction_backed (Page v) = stale refl
  instruction_backed (Shl x) = λ f. same_place _ refl refl refl (h f)
  instruction_backed ModifyReadOn = stale refl
  instruction_backed ModifyReadOff = stale refl
  instruction_backed Reset = stale refl
  instruction_backed Nop = h

  instructed_backed : (n : ℕ) (x : Option Instruction) → Backed k (state (after_by r (instructed_by k r n x).registers) m)
  instructed_backed n (some i) = instruction_backed i
  instructed_backed n none = h

  -- one of the new set moves neither page, column, holder nor the mark
  added_backed : (n : ℕ) (x : Option Added) → Backed k (state (after_by r (instructed_added_by r n x).registers) m)
  added_backed n (some i) = subst (λ q. Backed k (state q m)) (sym (added_moves r i)) (λ f. same_place _ refl refl refl (h f))
  added_backed n none = h

  -- a data read loads the cell
  read_backed : (mode : ModifyRead) → HoldsCell k (state (with_fresh (after_read k.width r mode (loaded k.width m r.page r.column.0)) true) m)
  unfolding written
  read_backed Off = record { column = r.column.0; cell = refl; near = inl refl }
  read_backed (On c) = record { column = r.column.0; cell = refl; near = inr refl }

  carried_backed : (kind value : ℕ) → Backed k (state (after_by r (carried k r m kind value).registers) (kept k.width r m kind value))
  unfolding carried kept
  carried_backed kind value =
      let P : Outcome → Type 0 = λ o. Backed k (state (after_by r o.registers) m) in
      split (eqb kind 1)
      (λ e. subst (λ (x : ℕ). Backed k (state (after_by r (carried k r m x value).registers) (kept k.width r m x value))) (sym (eqb-true kind 1 e)) (stale refl))
      (λ e. rw e
      (chosen P (eqb kind 0)
      (in_either P k r value (instructed_backed _ (read_of k r.awaited value).value) (added_backed _ (read_added r.awaited value).value) r.beside.set)
      (chosen P (eqb kind 2) h
      (chosen P (eqb kind 3) (λ f. read_backed r.modify_read)
      (chosen P (eqb kind 4) (stale refl) (λ f. same_place _ refl refl refl (h f)))))))

module _ (k : Sheet) where
  step_backed : (s : State) (x : BusCycle) → Backed k s → Backed k (step k s x)
  unfolding answer memory_after
  step_backed s x h = split (eqb (refusal k (length s.memory) s.registers x.0 x.1) 0)
      (λ e. rw e (carried_backed k s.registers s.memory h x.0 x.1))
      (λ e. rw e h)

  run_backed : (xs : List BusCycle) (s : State) → Backed k s → Backed k (run k s xs)
  run_backed [] s h = h
  run_backed (x ∷ xs) s h = run_backed xs (step k s x) (step_backed s x h)

  pub fresh_is_cell : (m : List ℕ) (xs : List BusCycle) → let s = run k (powered_up k m) xs in s.registers.fresh ≡ true → HoldsCell k s
  fresh_is_cell m xs = run_backed xs (powered_up k m) (λ f. absurd (false≢true f))
