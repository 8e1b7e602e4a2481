-- What a reader of the data sheet wants to know of the bus, each fact short: what changes nothing, what reading back gives and which of
-- it is fresh, what modify-read restores, that the column never runs on into another page, and what a reset by the pin leaves.
-- Assumes nothing.
use Prim.Native.Nat.{ℕ, zero, suc, ◌+◌, ◌*◌, ◌/◌, ◌%◌, ◌≤◌, ◌<◌}
use mathlib.Core.Path.{◌≡◌, ◌∙◌, refl, ap, sym, subst}
use mathlib.Core.Logic.{◌≢◌, ◌⊎◌, inl, inr}
use mathlib.Core.Bool.{Bool, true, false, cond}
use mathlib.Core.Option.{Option, none, some}
use mathlib.Core.List.{List, [], ◌∷◌, ◌++◌, map}
use native.Mathlib.Omega.{arith}
use native.Mathlib.Numerals.{add-one}
use lib.ListN.{length}
use lib.Dec.{eqb}
use borrow.Author.Tests.{eqb-true}
use Rattle.paper.specs.Sheet.{Sensible, sheet0717}
use Rattle.paper.specs.declared.sheet.Sheet.{Sheet}
use Rattle.paper.proofs.Cases.{chosen, less}
use Rattle.paper.proofs.Exactly.{Exactly}
use Rattle.paper.specs.Sheet.{sensible0717}
use Rattle.instructions.specs.Read.{read_of}
use Rattle.instructions.specs.Added.{read_added}
use Rattle.instructions.specs.declared.added.Added.{Added}
use Rattle.instructions.specs.declared.instruction.Instruction.{Instruction}
use Rattle.instructions.specs.declared.instruction.Instruction.TheVariants.{ColumnLow, ColumnHigh, Page, ModifyReadOn, ModifyReadOff}
use Rattle.instructions.proofs.Fields.{field_given}
use Rattle.registers.specs.Registers.{outside, with_modify_read, with_holder, with_pin_low, with_fresh, with_set, start}
use Rattle.registers.specs.declared.Column.{Column}
use Rattle.registers.specs.declared.ModifyRead.{ModifyRead}
use Rattle.registers.specs.declared.ModifyRead.TheVariants.{Off, On}
use Rattle.registers.specs.declared.Registers.{Registers}
use Rattle.registers.proofs.InRange.{start_inside}
use Rattle.controller.specs.Memory.{loaded, advanced}
use Rattle.controller.specs.Cycle.{Outcome, data_read, refused_with, after_low, after_instruction, instructed_by, instructed_added_by, written, after_read, refusal, carried, kept, answer, memory_after}
use Rattle.controller.specs.Run.{BusCycle}
use Rattle.controller.specs.Chip.{page_cycle, high_cycle, low_cycle, data_cycle}
use Rattle.controller.specs.State.{State, state, after_by, step, number, run, Restartable, Ready, placed}
use Rattle.controller.specs.ReadBack.{marked, bytes_read, cells_from}
use Rattle.controller.proofs.Cells.{past_columns, stored_none, advanced_below, advanced_locked}
use Rattle.controller.proofs.Sets.{in_either}
use Rattle.controller.proofs.Acting.{carries, keeps, stays_restartable, writes}
use Rattle.controller.proofs.Chips.{obeys, still, written_ready}
use Rattle.controller.proofs.Spelled.{pin_low_starts, pin_high_raises}

-- ---- what changes nothing

-- a status read
pub status_nothing : (k : Sheet) (s : State) (value : ℕ) → step k s (2, value) ≡ s
unfolding answer carried memory_after kept
status_nothing k s value =
    let t = eqb (refusal k (length s.memory) s.registers 2 value) 0 in
    ap (λ o. state (after_by s.registers o) (memory_after k s.registers s.memory 2 value)) (chosen (λ (o : Outcome). o.registers ≡ none) t refl refl)
    ∙ ap (state s.registers) (chosen (λ (m : List ℕ). m ≡ s.memory) t refl refl)

-- a refused cycle, so that an instruction refused leaves the awaited byte too
module _ (k : Sheet) (r : Registers) (m : List ℕ) (value : ℕ) where
  -- an answer is not refused, or gives no registers
  abbrev Silent : Outcome → Type 0
  Silent o = (o.number ≡ 0) ⊎ (o.registers ≡ none)

  silent_by : (n : ℕ) (x : Option Instruction) → Silent (instructed_by k r n x)
  silent_by n (some i) = inl refl
  silent_by n none = inr refl

  silent_added : (n : ℕ) (x : Option Added) → Silent (instructed_added_by r n x)
  silent_added n (some i) = inl refl
  silent_added n none = inr refl

  silent : (kind : ℕ) → Silent (answer k r m kind value)
  unfolding answer carried
  silent kind =
      chosen Silent (eqb (refusal k (length m) r kind value) 0)
      (chosen Silent (eqb kind 0)
      (in_either Silent k r value (silent_by _ (read_of k r.awaited value).value) (silent_added _ (read_added r.awaited value).value) r.beside.set)
      (chosen Silent (eqb kind 1) (inl refl) (chosen Silent (eqb kind 2) (inl refl) (chosen Silent (eqb kind 3) (inl refl) (chosen Silent (eqb kind 4) (inl refl) (inl refl))))))
      (inr refl)

  -- and then the memory stays
  stays_at : (kind : ℕ) (t : Bool) → eqb kind 1 ≡ t → ((answer k r m kind value).number ≡ 0) ⊎ (memory_after k r m kind value ≡ m)
  unfolding answer memory_after carried kept
  stays_at kind true e =
      let P : Bool → Type 0 = λ b. ((cond b (carried k r m 1 value) (refused_with (refusal k (length m) r 1 value))).number ≡ 0) ⊎ (cond b (kept k.width r m 1 value) m ≡ m) in
      subst (λ (x : ℕ). ((answer k r m x value).number ≡ 0) ⊎ (memory_after k r m x value ≡ m)) (sym (eqb-true kind 1 e)) (by P (eqb (refusal k (length m) r 1 value) 0) (inl refl) (inr refl))
    where
      by : (P : Bool → Type 0) (b : Bool) → P true → P false → P b
      by P true p q = p
      by P false p q = q
  stays_at kind false e = inr (chosen (λ (l : List ℕ). l ≡ m) (eqb (refusal k (length m) r kind value) 0) (rw e refl) refl)

refused_by : {A : Type 0} (n : ℕ) → n ≢ 0 → (n ≡ 0) ⊎ A → A
refused_by n h (inl e) = absurd (h e)
refused_by n h (inr a) = a

pub refused_nothing : (k : Sheet) (s : State) (x : BusCycle) → number k s x ≢ 0 → step k s x ≡ s
refused_nothing k s x h =
    let r = s.registers in
    ap (λ o. state (after_by r o) (memory_after k r s.memory x.0 x.1)) (refused_by (number k s x) h (silent k r s.memory x.1 x.0))
    ∙ ap (state r) (refused_by (number k s x) h (stays_at k r s.memory x.1 x.0 (eqb x.0 1) refl))

-- E0 while on, and EE while off, change nothing but the mark: the next data read is stale
module _ (k : Sheet) (g : Sensible k) (s : State) (h : Ready k s) where
  pub save_on_stale : (c : Column) → s.registers.modify_read ≡ On c → step k s (0, 0xe0) ≡ state (with_fresh s.registers false) s.memory
  save_on_stale c e = (obeys k g s h ModifyReadOn 0xe0 refl refl).1 ∙ rw e refl

  pub restore_off_stale : s.registers.modify_read ≡ Off → step k s (0, 0xee) ≡ state (with_fresh s.registers false) s.memory
  restore_off_stale e = (obeys k g s h ModifyReadOff 0xee refl refl).1 ∙ rw e refl

-- ---- what data cycles leave alone

-- page, modify-read and the awaited byte
pub record Left (r n : Registers) : Type 0 where
  pub page : n.page ≡ r.page
  pub modify_read : n.modify_read ≡ r.modify_read
  pub awaited : n.awaited ≡ r.awaited

left_all : (r : Registers) → Left r r
left_all r = record { page = refl; modify_read = refl; awaited = refl }

read_leaves : (w : ℕ) (r : Registers) (m : ModifyRead) (b : ℕ) → Left r (with_fresh (after_read w r m b) true)
unfolding written
read_leaves w r Off b = record { page = refl; modify_read = refl; awaited = refl }
read_leaves w r (On c) b = record { page = refl; modify_read = refl; awaited = refl }

pub write_leaves : (k : Sheet) (s : State) (value : ℕ) → Left s.registers (step k s (1, value)).registers
unfolding answer carried written
write_leaves k s value =
    chosen (λ (o : Outcome). Left s.registers (after_by s.registers o.registers)) (eqb (refusal k (length s.memory) s.registers 1 value) 0)
    (record { page = refl; modify_read = refl; awaited = refl }) (left_all s.registers)

pub read_keeps : (k : Sheet) (s : State) (value : ℕ) → Left s.registers (step k s (3, value)).registers
unfolding answer carried
read_keeps k s value =
    chosen (λ (o : Outcome). Left s.registers (after_by s.registers o.registers)) (eqb (refusal k (length s.memory) s.registers 3 value) 0)
    (read_leaves k.width s.registers s.registers.modify_read _) (left_all s.registers)

-- ---- the column never runs on into another page: behind the last column a data write stores nothing, and the column stays where it is

module _ (k : Sheet) (g : Sensible k) (s : State) (h : Restartable k s) where
  pub locked_stores_nothing : (b : ℕ) → k.width ≤ s.registers.column.0 → (step k s (1, b)).memory ≡ s.memory
  locked_stores_nothing b l =
      ap (λ t. t.memory) (writes k g s b h).1
      ∙ stored_none k.width s.memory s.registers.page s.registers.column.0 b (past_columns k.width s.registers.page s.registers.column.0 l)

  pub locked_stays : (b : ℕ) → k.width ≤ s.registers.column.0 → (step k s (1, b)).registers.column.0 ≡ s.registers.column.0
  unfolding written
  locked_stays b l = ap (λ t. t.registers.column.0) (writes k g s b h).1 ∙ advanced_locked k.width s.registers.column.0 l

  -- below the width a data write adds 1
  pub write_advances : (b : ℕ) → s.registers.column.0 < k.width → (step k s (1, b)).registers.column.0 ≡ s.registers.column.0 + 1
  unfolding written
  write_advances b l = ap (λ t. t.registers.column.0) (writes k g s b h).1 ∙ advanced_below k.width s.registers.column.0 l

  -- so the column stays exactly from the width up
  pub locks : (b : ℕ) → Exactly ((step k s (1, b)).registers.column.0 ≡ s.registers.column.0) (k.width ≤ s.registers.column.0)
  locks b = (
    λ e. less s.registers.column.0 k.width (λ l. absurd (omega (arith, write_advances b l))) (λ l. l),
    locked_stays b,
  )

  -- the column after a data read
  after_read_lem : (step k s (3, 0)).registers.column
      ≡ (after_read k.width s.registers s.registers.modify_read (loaded k.width s.memory s.registers.page s.registers.column.0)).column
  unfolding carried
  after_read_lem = ap (λ o. (after_by s.registers o.registers).column) (carries h 3 0 refl)

  read_locked : (r : Registers) (m : ModifyRead) (b : ℕ) → k.width ≤ r.column.0 → (after_read k.width r m b).column.0 ≡ r.column.0
  unfolding written
  read_locked r Off b l = advanced_locked k.width r.column.0 l
  read_locked r (On c) b l = refl

  -- a data read leaves it there too, modify-read off or on
  pub locked_read_stays : k.width ≤ s.registers.column.0 → (step k s (3, 0)).registers.column.0 ≡ s.registers.column.0
  locked_read_stays l = ap (λ c. c.0) after_read_lem ∙ read_locked s.registers s.registers.modify_read _ l

  -- and wherever it stands where modify-read is on
  pub modify_read_stays : (c : Column) → s.registers.modify_read ≡ On c → (step k s (3, 0)).registers.column ≡ s.registers.column
  modify_read_stays c e = after_read_lem ∙ rw e refl

-- the KS0717's column locks from 100: a data write leaves it exactly from there up
pub lock_100 : (s : State) → Restartable sheet0717 s → (b : ℕ)
    → Exactly ((step sheet0717 s (1, b)).registers.column.0 ≡ s.registers.column.0) (100 ≤ s.registers.column.0)
lock_100 s h b = locks sheet0717 sensible0717 s h b

-- ---- E0, any writes, EE: the column is what it was

module _ (k : Sheet) (g : Sensible k) where
  -- while modify-read is on, writes keep the saved column, and EE brings it back
  writes_restore : (bs : List ℕ) (s : State) (c : Column) → Ready k s → s.registers.modify_read ≡ On c
      → (run k s (map data_cycle bs ++ ((0, 0xee) ∷ []))).registers.column ≡ c
  writes_restore [] s c h e = ap (λ t. t.registers.column) (obeys k g s h ModifyReadOff 0xee refl refl).1 ∙ rw e refl
  writes_restore (b ∷ bs) s c h e = writes_restore bs (step k s (1, b)) c (written_ready k g s h b) ((write_leaves k s b).modify_read ∙ e)

  pub modify_restores : (bs : List ℕ) (s : State) → Ready k s → s.registers.modify_read ≡ Off
      → (run k s ((0, 0xe0) ∷ (map data_cycle bs ++ ((0, 0xee) ∷ [])))).registers.column ≡ s.registers.column
  modify_restores bs s h e =
      let d = obeys k g s h ModifyReadOn 0xe0 refl refl in
      let f : step k s (0, 0xe0) ≡ state (with_fresh (with_modify_read s.registers (On s.registers.column)) false) s.memory = d.1 ∙ rw e refl in
      writes_restore bs (step k s (0, 0xe0)) s.registers.column
      (record { restartable = d.2; quiet = ap (λ t. t.registers.awaited) f ∙ h.quiet })
      (ap (λ t. t.registers.modify_read) f)

-- ---- reading back: the first read answers the old holder, and n more are fresh and answer the n cells from the column on

module _ (k : Sheet) (g : Sensible k) where
  -- one data read without modify-read
  read_one : (s : State) → Restartable k s → s.registers.modify_read ≡ Off
      → (((answer k s.registers s.memory 3 0).byte, (answer k s.registers s.memory 3 0).fresh) ≡ marked s.registers.holder s.registers.fresh)
      × (step k s (3, 0) ≡ state (with_fresh (written k.width s.registers (loaded k.width s.memory s.registers.page s.registers.column.0)) true) s.memory)
      × Restartable k (step k s (3, 0))
  unfolding carried kept written
  read_one s h e =
      let r = s.registers in
      let b = loaded k.width s.memory r.page r.column.0 in
      let n = with_fresh (written k.width r b) true in
      let a : answer k r s.memory 3 0 ≡ data_read r.holder r.fresh n = carries h 3 0 refl ∙ rw e refl in
      let q : step k s (3, 0) ≡ state n s.memory =
      ap (λ o. state (after_by r o.registers) (memory_after k r s.memory 3 0)) a ∙ ap (state n) (keeps h 3 0 refl) in (
        ap (λ o. (o.byte, o.fresh)) a,
        q,
        stays_restartable k g s (3, 0) h (ap (λ t. t.registers.pin_low) q),
      )

  pub reads_back : (n : ℕ) (s : State) → Restartable k s → s.registers.modify_read ≡ Off → s.registers.column.0 + n ≤ k.width
      → bytes_read k s (suc n) ≡ marked s.registers.holder s.registers.fresh ∷ cells_from k.width s.memory s.registers.page s.registers.column.0 n
  unfolding bytes_read cells_from written
  reads_back zero s h e l = rw (read_one s h e).0 refl
  reads_back (suc n) s h e l =
      let r = s.registers in
      let c = r.column.0 in
      let d = read_one s h e in
      let up : advanced k.width c ≡ suc c = advanced_below k.width c (omega arith) ∙ add-one c in
      let at : (step k s (3, 0)).registers.column.0 ≡ suc c = ap (λ t. t.registers.column.0) d.1 ∙ up in
      rw d.0 (ap (λ l. marked r.holder r.fresh ∷ l) (
      reads_back n (step k s (3, 0)) d.2 ((read_keeps k s 0).modify_read ∙ e) (omega arith)
      ∙ ap (λ t. marked t.registers.holder t.registers.fresh ∷ cells_from k.width t.memory t.registers.page t.registers.column.0 n) d.1
      ∙ ap (λ (x : ℕ). marked (loaded k.width s.memory r.page c) true ∷ cells_from k.width s.memory r.page x n) up
      ))

  -- so after an address set the first read is a dummy and stale: it answers what the holder held before. The next are fresh, and each is
  -- a cell: whoever takes the fresh bytes alone takes the page as it is from the column on
  pub dummy_read : (n p c : ℕ) (s : State) → Ready k s → s.registers.modify_read ≡ Off → p ≤ 15 → c + n ≤ k.width → c < k.width
      → bytes_read k (run k s (page_cycle p ∷ high_cycle (c / 16) ∷ low_cycle (c % 16) ∷ [])) (suc n)
      ≡ marked s.registers.holder false ∷ cells_from k.width s.memory p c n
  dummy_read n p c s h e hp hn hc =
      let r = s.registers in
      let d1 = obeys k g s h (Page p) (0xb0 + p) refl (field_given 0xb0 16 p (omega arith)) in
      let h1 = still k s (Page p) (0xb0 + p) g d1 h.quiet in
      let s1 = step k s (page_cycle p) in
      let d2 = obeys k g s1 h1 (ColumnHigh (c / 16)) (0x10 + c / 16) refl (field_given 0x10 k.highs (c / 16) (omega (arith, g.wide))) in
      let h2 = still k s1 (ColumnHigh (c / 16)) (0x10 + c / 16) g d2 h1.quiet in
      let s2 = step k s1 (high_cycle (c / 16)) in
      let d3 = obeys k g s2 h2 (ColumnLow (c % 16)) (0x00 + c % 16) refl (field_given 0x00 16 (c % 16) (omega arith)) in
      let f : step k s2 (low_cycle (c % 16)) ≡ state (with_fresh (placed r p c r.holder) false) s.memory =
      d3.1
      ∙ ap (λ t. state (after_instruction k t.registers (ColumnLow (c % 16))) t.memory) (d2.1 ∙ ap (λ t. state (after_instruction k t.registers (ColumnHigh (c / 16))) t.memory) d1.1)
      ∙ ap (λ (x : ℕ). state (with_fresh (placed r p x r.holder) false) s.memory) (omega (arith, g.wide, g.byte)) in
      ap (λ t. bytes_read k t (suc n)) f
      ∙ reads_back n (state (with_fresh (placed r p c r.holder) false) s.memory) (subst (Restartable k) f d3.2) e hn

-- ---- the pin: from any registers in range, low then high leaves power-up's registers but for the holder and the command set, and the
-- memory

pub pin_resets : (k : Sheet) → Sensible k → (s : State) → length s.memory ≡ 9 * k.width → outside k s.registers ≡ false
    → run k s ((4, 0) ∷ (5, 0) ∷ []) ≡ state (with_set (with_holder (with_pin_low (start k 0 true) false) s.registers.holder) s.registers.beside.set) s.memory
pin_resets k g s long e =
    let low = state (after_low k s.registers) s.memory in
    let f : step k s (4, 0) ≡ low = (pin_low_starts k s long e).1 in
    ap (λ t. step k t (5, 0)) f ∙ (pin_high_raises k low long (start_inside k g s.registers.beside.set s.registers.holder true)).1
