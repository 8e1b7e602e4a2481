-- E2, the reset instruction, on any chip whose sheet makes sense: where it leaves each register, that EE after it finds nothing saved,
-- that taken as a second byte it resets nothing, and which bytes besides it do what the reset pin does. Registers are told one by one,
-- so that a definition that forgets one is refused here.
-- Assumes nothing.
use Prim.Native.Nat.{ℕ}
use mathlib.Core.Path.{◌≡◌, ◌∙◌, refl, ap, sym}
use mathlib.Core.Bool.{true, false}
use mathlib.Core.List.{List, [], ◌∷◌, ◌++◌, map}
use native.Mathlib.Omega.{arith}
use Rattle.paper.specs.Told.{given}
use Rattle.paper.specs.Sheet.{Sensible}
use Rattle.paper.specs.declared.sheet.Sheet.{Sheet}
use Rattle.instructions.specs.Write.{write_of}
use Rattle.instructions.specs.Read.{awaited_for}
use Rattle.instructions.specs.declared.instruction.Awaited.TheVariants as awaited
use Rattle.instructions.specs.declared.instruction.Instruction.{Instruction}
use Rattle.instructions.specs.declared.instruction.Instruction.TheVariants.{Power, ContrastValue, Adc, Bias, Entire, Reverse, IndicatorValue, Display, ModifyReadOn, Reset}
use Rattle.instructions.proofs.Fields.{field_given, flag_given}
use Rattle.registers.specs.Registers.{column, with_contrast, with_indicator_value, with_awaited, with_pin_low, with_holder, with_fresh, with_beside, start}
use Rattle.registers.specs.declared.Beside.{Beside}
use Rattle.registers.specs.declared.ModifyRead.{ModifyRead}
use Rattle.registers.specs.declared.ModifyRead.TheVariants.{Off, On}
use Rattle.registers.specs.declared.Registers.{Registers}
use Rattle.controller.specs.Execute.{saved, executed}
use Rattle.controller.specs.Cycle.{after_instruction}
use Rattle.controller.specs.Run.{BusCycle}
use Rattle.controller.specs.Chip.{data_cycle, nop_cycle}
use Rattle.controller.specs.State.{State, state, step, number, run, Restartable, Ready}
use Rattle.controller.proofs.Acting.{acts}
use Rattle.controller.proofs.Chips.{obeys, still, written_ready, spent_by}
use Rattle.controller.proofs.Readers.{restore_off_stale, pin_resets}

-- ---- register by register

-- nine at their start value, the mark stale, nine as they were; and what the new command set has beside them stays
abbrev pub after_reset : Sheet → Registers → Registers
after_reset k r = record {
  page = 0;
  column = column 0;
  start_line = 0;
  contrast = 32;
  resistor = k.resistor;
  power = r.power;
  bias = r.bias;
  adc = r.adc;
  shl = false;
  reverse = r.reverse;
  entire = r.entire;
  on = r.on;
  indicator = false;
  indicator_value = 0;
  holder = r.holder;
  pin_low = r.pin_low;
  modify_read = Off;
  awaited = r.awaited;
  fresh = false;
  beside = r.beside;
}

-- E0 leaves what is awaited
saved_quiet : (r : Registers) (m : ModifyRead) → (saved r m).awaited ≡ r.awaited
saved_quiet r Off = refl
saved_quiet r (On c) = refl

module _ (k : Sheet) (g : Sensible k) where
  -- where nothing is awaited E2 is accepted, leaves the registers so, and the memory as it was
  pub reset_by_name : (s : State) → Ready k s → (number k s (0, 0xe2) ≡ 0) × (step k s (0, 0xe2) ≡ state (after_reset k s.registers) s.memory)
  reset_by_name s h = let e = obeys k g s h Reset 0xe2 refl refl in (e.0, e.1)

  -- and it leaves a ready state. So between two streams a true record of the memory stays true, and the next update is right
  pub reset_ready : (s : State) → Ready k s → Ready k (step k s (0, 0xe2))
  reset_ready s h = still k s Reset 0xe2 g (obeys k g s h Reset 0xe2 refl refl) h.quiet

  -- ---- the saved column is forgotten

  -- whatever was saved, EE after E2 changes nothing
  pub reset_forgets : (s : State) → Ready k s → run k s ((0, 0xe2) ∷ (0, 0xee) ∷ []) ≡ step k s (0, 0xe2)
  reset_forgets s h =
      let e = (reset_by_name s h).1 in
      restore_off_stale k g (step k s (0, 0xe2)) (reset_ready s h) (ap (λ t. t.registers.modify_read) e)
      ∙ ap (λ t. state (with_fresh t.registers false) t.memory) e ∙ sym e

  -- E0 leaves a ready state, a column saved or not
  save_ready : (s : State) → Ready k s → Ready k (step k s (0, 0xe0))
  save_ready s h =
      still k s ModifyReadOn 0xe0 g (obeys k g s h ModifyReadOn 0xe0 refl refl) (saved_quiet s.registers s.registers.modify_read ∙ h.quiet)

  -- writes, E2, EE: the column is 0
  writes_reset : (bs : List ℕ) (s : State) → Ready k s → (run k s (map data_cycle bs ++ ((0, 0xe2) ∷ (0, 0xee) ∷ []))).registers.column.0 ≡ 0
  writes_reset [] s h = ap (λ t. t.registers.column.0) (reset_forgets s h ∙ (reset_by_name s h).1)
  writes_reset (b ∷ bs) s h = writes_reset bs (step k s (1, b)) (written_ready k g s h b)

  -- E0, any writes, E2, EE: the column is 0, whatever E0 saved
  pub reset_in_modify_read : (bs : List ℕ) (s : State) → Ready k s
      → (run k s ((0, 0xe0) ∷ (map data_cycle bs ++ ((0, 0xe2) ∷ (0, 0xee) ∷ [])))).registers.column.0 ≡ 0
  reset_in_modify_read bs s h = writes_reset bs (step k s (0, 0xe0)) (save_ready s h)

  -- ---- taken as a second byte E2 is a value, contrast 34 or indicator value 2, and resets nothing

  pub reset_as_contrast : (s : State) → Restartable k s → s.registers.awaited ≡ awaited.Contrast
      → (number k s (0, 0xe2) ≡ 0) × (step k s (0, 0xe2) ≡ state (with_awaited (with_contrast s.registers 34) awaited.Nothing) s.memory)
  reset_as_contrast s h e = let d = acts k g s (ContrastValue 34) 0xe2 h (rw e refl) in (d.0, d.1)

  pub reset_as_indicator : (s : State) → Restartable k s → s.registers.awaited ≡ awaited.Indicator
      → (number k s (0, 0xe2) ≡ 0) × (step k s (0, 0xe2) ≡ state (with_awaited (with_indicator_value s.registers 2) awaited.Nothing) s.memory)
  reset_as_indicator s h e = let d = acts k g s (IndicatorValue 2) 0xe2 h (rw e refl) in (d.0, d.1)

-- ---- E2 and the pin

-- an instruction with its byte that is no second byte and asks for none
record OneByte (k : Sheet) : Type 0 where
  instruction : Instruction
  byte : ℕ
  first : awaited_for instruction ≡ awaited.Nothing
  spelled : write_of k instruction ≡ given byte
  quiet : (r : Registers) → (executed k r instruction).awaited ≡ r.awaited

abbrev one_byte : (k : Sheet) (i : Instruction) (b : ℕ) → awaited_for i ≡ awaited.Nothing → write_of k i ≡ given b → ((r : Registers) → (executed k r i).awaited ≡ r.awaited) → OneByte k
one_byte k i b f w q = record { instruction = i; byte = b; first = f; spelled = w; quiet = q }

abbrev cycle_of : {k : Sheet} → OneByte k → BusCycle
cycle_of p = (0, p.byte)

-- the registers after such instructions, one after the other
all_executed : (k : Sheet) → Registers → List (OneByte k) → Registers
all_executed k r [] = r
all_executed k r (p ∷ ps) = all_executed k (after_instruction k r p.instruction) ps

module _ (k : Sheet) (g : Sensible k) where
  all_obeyed : (ps : List (OneByte k)) (s : State) → Ready k s → run k s (map cycle_of ps) ≡ state (all_executed k s.registers ps) s.memory
  unfolding all_executed
  all_obeyed [] s h = refl
  all_obeyed (p ∷ ps) s h =
      let e = obeys k g s h p.instruction p.byte p.first p.spelled in
      all_obeyed ps (step k s (0, p.byte)) (still k s p.instruction p.byte g e (p.quiet s.registers ∙ h.quiet))
      ∙ ap (λ t. state (all_executed k t.registers ps) t.memory) e.1

  -- what the pin leaves, low and then high, with this beside
  abbrev by_pin : ℕ → Beside → List ℕ → State
  by_pin holder beside memory = state (with_beside (with_holder (with_pin_low (start k 0 true) false) holder) beside) memory

  -- where nothing is awaited
  reset_and_six : (s : State) → Ready k s
      → run k s ((0, 0xa4) ∷ (0, 0xae) ∷ (0, 0xe2) ∷ (0, 0x28) ∷ (0, 0xa2) ∷ (0, 0xa0) ∷ (0, 0xa6) ∷ []) ≡ by_pin s.registers.holder s.registers.beside s.memory
  unfolding all_executed
  reset_and_six s h =
      let ps : List (OneByte k) = one_byte k (Entire false) 0xa4 refl (flag_given 0xa4 0xa5 false) (λ r. refl)
      ∷ one_byte k (Display false) 0xae refl (flag_given 0xae 0xaf false) (λ r. refl)
      ∷ one_byte k Reset 0xe2 refl refl (λ r. refl)
      ∷ one_byte k (Power 0) 0x28 refl (field_given 0x28 8 0 (omega arith)) (λ r. refl)
      ∷ one_byte k (Bias false) 0xa2 refl (flag_given 0xa2 0xa3 false) (λ r. refl)
      ∷ one_byte k (Adc false) 0xa0 refl (flag_given 0xa0 0xa1 false) (λ r. refl)
      ∷ one_byte k (Reverse false) 0xa6 refl (flag_given 0xa6 0xa7 false) (λ r. refl)
      ∷ [] in
      all_obeyed ps s h ∙ rw (h.quiet, h.restartable.high) refl

  -- with the pin high and all else unknown: E3 spends a byte that is awaited, six bytes set what E2 leaves, and with E2 among them the
  -- chip is as the pin leaves it, but for the new set's three numbers: no byte of the old set moves these
  pub reset_as_pin : (s : State) → Restartable k s → let t = run k s ((4, 0) ∷ (5, 0) ∷ []) in
      run k s ((0, 0xe3) ∷ (0, 0xa4) ∷ (0, 0xae) ∷ (0, 0xe2) ∷ (0, 0x28) ∷ (0, 0xa2) ∷ (0, 0xa0) ∷ (0, 0xa6) ∷ [])
      ≡ state (with_beside t.registers s.registers.beside) t.memory
  reset_as_pin s h =
      let e = spent_by k g s h s.registers.awaited refl in
      let b = s.registers.beside in
      reset_and_six (step k s nop_cycle) e.1
      ∙ ap (λ x. by_pin (step k s nop_cycle).registers.holder x.beside (step k s nop_cycle).memory) e.3
      ∙ ap (λ v. by_pin v.holder b v.memory) e.2
      ∙ sym (ap (λ t. state (with_beside t.registers b) t.memory) (pin_resets k g s h.long h.ranged))
