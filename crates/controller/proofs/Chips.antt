-- The controller keeps the laws that layers above use, for any sensible sheet: a chip to update, and a chip to redraw. What ready
-- and restartable mean of it is exactly what demand 3 supposes, by definition (specs/State.antt).
-- Assumes nothing.
use Prim.Native.Nat.{ℕ, ◌+◌, ◌<◌}
use mathlib.Core.Path.{◌≡◌, ◌∙◌, refl, ap, sym, subst}
use mathlib.Core.Bool.{Bool, true, cond, false≢true}
use native.Mathlib.Omega.{arith}
use native.Mathlib.Numerals.{add-one}
use Rattle.paper.specs.Told.{given}
use Rattle.paper.specs.Sheet.{Sensible}
use Rattle.paper.specs.declared.sheet.Sheet.{Sheet}
use Rattle.instructions.specs.Write.{write_of}
use Rattle.instructions.specs.Read.{read_of, awaited_for}
use Rattle.instructions.specs.Added.{of_other}
use Rattle.instructions.specs.declared.added.CommandSet.TheVariants.{Old}
use Rattle.instructions.specs.declared.instruction.Awaited.{Awaited}
use Rattle.instructions.specs.declared.instruction.Awaited.TheVariants as awaited
use Rattle.instructions.specs.declared.instruction.Instruction.{Instruction}
use Rattle.instructions.specs.declared.instruction.Instruction.TheVariants.{ColumnLow, ColumnHigh, ContrastNext, ContrastValue, IndicatorOff, IndicatorValue, Page, Nop}
use Rattle.instructions.proofs.Fields.{field_given}
use Rattle.instructions.proofs.ReadBack.{read_back}
use Rattle.registers.specs.Registers.{with_contrast, with_indicator, with_indicator_value, with_awaited, with_fresh}
use Rattle.registers.specs.declared.Registers.{Registers}
use Rattle.registers.proofs.InRange.{own_awaited}
use Rattle.controller.specs.Execute.{executed}
use Rattle.controller.specs.Memory.{stored}
use Rattle.controller.specs.Cycle.{written, after_instruction}
use Rattle.controller.specs.State.{State, state, step, number, Restartable, Ready, placed, rest, settings, indicator_awaited}
use Rattle.controller.specs.Chip.{View, Chip, Restart, data_cycle, nop_cycle, ask_cycle, on_column, with_rest, wrote}
use Rattle.controller.proofs.Cells.{advanced_below}
use Rattle.controller.proofs.Acting.{acts, writes}

abbrev pub view_of : State → View Registers
view_of s = record { page = s.registers.page; column = s.registers.column.0; holder = s.registers.holder; memory = s.memory; rest = rest s.registers }

-- ---- one instruction byte, by what it is the byte of

module _ (k : Sheet) (g : Sensible k) (s : State) where
  -- accepted, ready stays, and the registers are those after the instruction
  abbrev pub Obeyed : Instruction → ℕ → Type 0
  Obeyed i b = (number k s (0, b) ≡ 0) × (step k s (0, b) ≡ state (after_instruction k s.registers i) s.memory) × Restartable k (step k s (0, b))

  -- where nothing is awaited
  pub obeys : Ready k s → (i : Instruction) (b : ℕ) → awaited_for i ≡ awaited.Nothing → write_of k i ≡ given b → Obeyed i b
  obeys h i b q e = acts k g s i b h.restartable (subst (λ a. read_of k a b ≡ given i) (q ∙ sym h.quiet) (read_back k g i b e))

  -- a data write below the width
  pub wrote_as : Ready k s → (b : ℕ) → s.registers.column.0 < k.width → view_of (step k s (data_cycle b)) ≡ wrote k.width b (view_of s)
  unfolding written
  wrote_as h b l =
      let r = s.registers in
      let m = stored k.width s.memory r.page r.column.0 b in
      ap view_of (writes k g s b h.restartable).1
      ∙ ap (λ (c : ℕ). record { page = r.page; column = c; holder = b; memory = m; rest = rest r }) (advanced_below k.width r.column.0 l ∙ add-one r.column.0)

  pub written_ready : Ready k s → (b : ℕ) → Ready k (step k s (data_cycle b))
  unfolding written
  written_ready h b =
      let e = writes k g s b h.restartable in
      record { restartable = e.2; quiet = ap (λ t. t.registers.awaited) e.1 ∙ h.quiet }

-- ready stays where the instruction leaves what is awaited
pub still : (k : Sheet) (s : State) (i : Instruction) (b : ℕ) (g : Sensible k) → Obeyed k g s i b → (executed k s.registers i).awaited ≡ awaited.Nothing → Ready k (step k s (0, b))
still k s i b g e q = record { restartable = e.2; quiet = ap (λ t. t.registers.awaited) e.1 ∙ q }

-- ---- a chip to update

abbrev pub chip_of : (k : Sheet) → Sensible k → Chip k.width
chip_of k g = record {
  State = State;
  Rest = Registers;
  view = view_of;
  Ready = Ready k;
  step = step k;
  number = number k;
  page_law = λ s p h l.
      let e = obeys k g s h (Page p) (0xb0 + p) refl (field_given 0xb0 16 p (omega arith)) in
      (e.0, still k s (Page p) (0xb0 + p) g e h.quiet, ap view_of e.1);
  high_law = λ s v h l.
      let e = obeys k g s h (ColumnHigh v) (0x10 + v) refl (field_given 0x10 k.highs v (omega (arith, g.wide))) in
      (e.0, still k s (ColumnHigh v) (0x10 + v) g e h.quiet, ap view_of e.1 ∙ ap (λ (c : ℕ). on_column c (view_of s)) (omega (arith, g.wide, g.byte)));
  low_law = λ s v h l.
      let e = obeys k g s h (ColumnLow v) (0x00 + v) refl (field_given 0x00 16 v l) in
      (e.0, still k s (ColumnLow v) (0x00 + v) g e h.quiet, ap view_of e.1 ∙ ap (λ (c : ℕ). on_column c (view_of s)) (omega arith));
  data_law = λ s b h l. ((writes k g s b h.restartable).0, written_ready k g s h b, wrote_as k g s h b l);
}

-- ---- a chip to redraw

-- what E3 leaves, by what is awaited: it is spent as that
module _ (k : Sheet) (g : Sensible k) (s : State) (h : Restartable k s) where
  abbrev pub Spent : ℕ → Type 0
  Spent v = (number k s nop_cycle ≡ 0) × Ready k (step k s nop_cycle)
      × (with_rest (rest s.registers) (view_of (step k s nop_cycle)) ≡ view_of s)
      × (settings (rest (step k s nop_cycle).registers) ≡ settings (rest s.registers))
      × ((step k s nop_cycle).registers.indicator_value ≡ v)

  spent_as : (i : Instruction) (v : ℕ) → read_of k s.registers.awaited 0xe3 ≡ given i
      → ((executed k s.registers i).awaited ≡ awaited.Nothing)
      × (with_rest (rest s.registers) (view_of (state (after_instruction k s.registers i) s.memory)) ≡ view_of s)
      × (settings (rest (after_instruction k s.registers i)) ≡ settings (rest s.registers))
      × ((executed k s.registers i).indicator_value ≡ v)
      → Spent v
  spent_as i v q f =
      let e = acts k g s i 0xe3 h q in (
        e.0,
        record { restartable = e.2; quiet = ap (λ t. t.registers.awaited) e.1 ∙ f.0 },
        ap (λ t. with_rest (rest s.registers) (view_of t)) e.1 ∙ f.1,
        ap (λ t. settings (rest t.registers)) e.1 ∙ f.2,
        ap (λ t. t.registers.indicator_value) e.1 ∙ f.3,
      )

  -- in range and in the old set no byte of the new one is awaited
  foreign : (a : Awaited) → of_other Old a ≡ true → s.registers.awaited ≡ a → ⊥
  foreign a t e = false≢true (sym (own_awaited k s.registers h.ranged) ∙ rw (h.old, e) t)

  pub spent_by : (a : Awaited) → s.registers.awaited ≡ a → Spent (cond (indicator_awaited a) 3 s.registers.indicator_value)
  spent_by awaited.Nothing e = spent_as Nop _ (rw e (read_back k g Nop 0xe3 refl)) (e, refl, refl, refl)
  spent_by awaited.Contrast e = spent_as (ContrastValue 35) _ (rw e refl) (refl, refl, refl, refl)
  spent_by awaited.Indicator e = spent_as (IndicatorValue 3) _ (rw e refl) (refl, refl, refl, refl)
  spent_by awaited.Com0 e = absurd (foreign awaited.Com0 refl e)
  spent_by awaited.Duty e = absurd (foreign awaited.Duty refl e)
  spent_by awaited.Inversion e = absurd (foreign awaited.Inversion refl e)

abbrev pub restart_of : (k : Sheet) (g : Sensible k) → Restart (chip_of k g)
restart_of k g = record {
  Settings = Registers;
  settings = settings;
  contrast = λ r. r.contrast;
  indicator = λ r. r.indicator;
  value = λ r. r.indicator_value;
  pending = λ r. indicator_awaited r.awaited;
  Restartable = Restartable k;
  ready_restartable = λ s h. h.restartable;
  nop_law = λ s h. spent_by k g s h s.registers.awaited refl;
  off_law = λ s h.
      let e = obeys k g s h IndicatorOff 0xac refl refl in (
        e.0,
        still k s IndicatorOff 0xac g e h.quiet,
        ap (λ t. with_rest (rest s.registers) (view_of t)) e.1,
        ap (λ t. settings (rest t.registers)) e.1,
        ap (λ t. t.registers.indicator_value) e.1,
        ap (λ t. t.registers.indicator) e.1,
      );
  ask_law = λ s h.
      let e = obeys k g s h ContrastNext 0x81 refl refl in
      (e.0, e.2, ap (λ t. with_rest (rest s.registers) (view_of t)) e.1);
  contrast_law = λ s v h l.
      let d = obeys k g s h ContrastNext 0x81 refl refl in
      let q : read_of k (step k s ask_cycle).registers.awaited v ≡ given (ContrastValue v) =
      subst (λ a. read_of k a v ≡ given (ContrastValue v)) (sym (ap (λ t. t.registers.awaited) d.1)) (ap (λ (x : ℕ). given (ContrastValue x)) (omega arith)) in
      let e = acts k g (step k s ask_cycle) (ContrastValue v) v d.2 q in
      let f = e.1 ∙ ap (λ t. state (after_instruction k t.registers (ContrastValue v)) t.memory) d.1 in (
        e.0,
        record { restartable = e.2; quiet = ap (λ t. t.registers.awaited) f },
        ap (λ t. with_rest (rest s.registers) (view_of t)) f,
        ap (λ t. settings (rest t.registers)) f,
        ap (λ t. t.registers.indicator_value) f,
        ap (λ t. t.registers.indicator) f,
        ap (λ t. t.registers.contrast) f,
      );
}

-- ---- registers from what a stream moved and what it left

-- after an update: page, column, holder and the mark, all else as in r
pub moved : (a r : Registers) {p c h : ℕ} {f : Bool} → rest a ≡ rest r → a.page ≡ p → a.column.0 ≡ c → a.holder ≡ h → a.fresh ≡ f
    → a ≡ with_fresh (placed r p c h) f
moved a r e ep ec eh ef = rw (← ep, ← ec, ← eh, ← ef) (ap (λ x. with_fresh (placed x a.page a.column.0 a.holder) a.fresh) e)

-- contrast, indicator and what is awaited as given, all else as in r
abbrev pub set : Registers → ℕ → Bool → ℕ → Awaited → Registers
set r contrast indicator value waits = with_awaited (with_indicator_value (with_indicator (with_contrast r contrast) indicator) value) waits

-- after a redraw: these besides
pub redrawn : (a r : Registers) {p c h k v : ℕ} {i f : Bool} {w : Awaited} → settings (rest a) ≡ settings (rest r) → a.page ≡ p → a.column.0 ≡ c → a.holder ≡ h
    → a.contrast ≡ k → a.indicator ≡ i → a.indicator_value ≡ v → a.awaited ≡ w → a.fresh ≡ f → a ≡ with_fresh (set (placed r p c h) k i v w) f
redrawn a r e ep ec eh ek ei ev ew ef =
    rw (← ep, ← ec, ← eh, ← ek, ← ei, ← ev, ← ew, ← ef)
    (ap (λ x. with_fresh (set (placed x a.page a.column.0 a.holder) a.contrast a.indicator a.indicator_value a.awaited) a.fresh) e)
