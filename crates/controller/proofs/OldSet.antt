-- In the old command set all is as before order 13: what stands beside the sheet's registers plays no part, and only pin low moves it. Of
-- the cycles only an instruction looks at the set.
-- Assumes nothing.
use Prim.Native.Nat.{ℕ}
use mathlib.Core.Path.{◌≡◌, ◌∙◌, refl, ap, sym, subst}
use mathlib.Core.Logic.{◌≢◌}
use mathlib.Core.Bool.{true, false, not, ◌&&◌}
use mathlib.Core.Option.{Option, none, some}
use mathlib.Core.List.{List, [], ◌∷◌}
use lib.ListN.{length}
use lib.Dec.{eqb}
use borrow.Author.Tests.{eqb-true, eqb-false, ne_eqb}
use Rattle.paper.specs.Sheet.{Sensible}
use Rattle.paper.specs.declared.sheet.Sheet.{Sheet}
use Rattle.paper.proofs.Cases.{split}
use Rattle.instructions.specs.Read.{read_of}
use Rattle.instructions.specs.declared.added.CommandSet.TheVariants.{Old}
use Rattle.instructions.specs.declared.instruction.Instruction.{Instruction}
use Rattle.registers.specs.Beside.{start_beside}
use Rattle.registers.specs.Registers.{with_pin_low, with_fresh, with_beside, outside}
use Rattle.registers.specs.declared.Beside.{Beside}
use Rattle.registers.specs.declared.ModifyRead.{ModifyRead}
use Rattle.registers.specs.declared.ModifyRead.TheVariants.{Off, On}
use Rattle.registers.specs.declared.Registers.{Registers}
use Rattle.controller.specs.Cycle.{Outcome, done, status_read, data_read, written, status, after_read, instructed_by, instructed_in, refusal, carried, kept, answer, memory_after}
use Rattle.controller.specs.Execute.{ends_reading}
use Rattle.controller.specs.Memory.{loaded}
use Rattle.controller.specs.Run.{BusCycle}
use Rattle.controller.specs.State.{State, state, after_by, step, number, run, numbers}
use Rattle.controller.proofs.Sets.{executed_with}
use Rattle.controller.proofs.Keeping.{stays_inside, stays_set}
use Rattle.controller.proofs.Marks.{both_chosen}

-- an answer with x beside, in place of what its registers have there
abbrev pub registers_with : Beside → Option Registers → Option Registers
registers_with x none = none
registers_with x (some n) = some (with_beside n x)

abbrev pub with : Beside → Outcome → Outcome
with x o = record { number = o.number; byte = o.byte; fresh = o.fresh; registers = registers_with x o.registers }

module _ (k : Sheet) (r : Registers) (x : Beside) (m : List ℕ) where
  -- ---- what is carried out

  -- the one answer is the other with x beside
  abbrev Alike : Outcome → Outcome → Type 0
  Alike o p = o ≡ with x p

  instructed_with : (n : ℕ) (i : Option Instruction) → Alike (instructed_by k (with_beside r x) n i) (instructed_by k r n i)
  instructed_with n (some i) = ap (λ q. done (with_fresh q (not (ends_reading i) && r.fresh))) (executed_with k r x i)
  instructed_with n none = refl

  read_with : (mode : ModifyRead) (b : ℕ) → after_read k.width (with_beside r x) mode b ≡ with_beside (after_read k.width r mode b) x
  unfolding written
  read_with Off b = refl
  read_with (On c) b = refl

  -- any kind but pin low, by what an instruction byte does
  carried_with : (kind value : ℕ) → kind ≢ 4 → (kind ≡ 0 → Alike (instructed_in k (with_beside r x) value x.set) (instructed_in k r value r.beside.set))
      → Alike (carried k (with_beside r x) m kind value) (carried k r m kind value)
  unfolding carried written status
  carried_with kind value four f =
      let w = k.width in
      let b = loaded w m r.page r.column.0 in
      let one : Alike (done (with_fresh (written w (with_beside r x) value) false)) (done (with_fresh (written w r value) false)) = refl in
      let two : Alike (status_read (status (with_beside r x))) (status_read (status r)) = refl in
      let three : Alike (data_read r.holder r.fresh (with_fresh (after_read w (with_beside r x) r.modify_read b) true)) (data_read r.holder r.fresh (with_fresh (after_read w r r.modify_read b) true))
      = ap (λ q. data_read r.holder r.fresh (with_fresh q true)) (read_with r.modify_read b) in
      let five : Alike (done (with_pin_low (with_beside r x) false)) (done (with_pin_low r false)) = refl in
      split (eqb kind 0)
      (λ t. rw t (f (eqb-true kind 0 t)))
      (λ t. rw (t, ne_eqb kind 4 four) (both_chosen Alike (eqb kind 1) one (both_chosen Alike (eqb kind 2) two (both_chosen Alike (eqb kind 3) three five))))

  -- ---- the whole cycle, where both are in range

  module _ (i : outside k r ≡ false) (j : outside k (with_beside r x) ≡ false) (kind value : ℕ) where
    refused_alike : refusal k (length m) (with_beside r x) kind value ≡ refusal k (length m) r kind value
    unfolding refusal
    refused_alike = rw (i, j) refl

    answer_with : Alike (carried k (with_beside r x) m kind value) (carried k r m kind value) → answer k (with_beside r x) m kind value ≡ with x (answer k r m kind value)
    unfolding answer
    answer_with e = rw refused_alike (both_chosen Alike (eqb (refusal k (length m) r kind value) 0) e refl)

    -- only an instruction looks at the set
    pub others_as_before : kind ≢ 0 → kind ≢ 4 → answer k (with_beside r x) m kind value ≡ with x (answer k r m kind value)
    others_as_before zero four = answer_with (carried_with kind value four (λ e. absurd (zero e)))

    -- in the old set an instruction does not either
    pub old_as_before : r.beside.set ≡ Old → x.set ≡ Old → kind ≢ 4 → answer k (with_beside r x) m kind value ≡ with x (answer k r m kind value)
    old_as_before s t four =
        answer_with (carried_with kind value four
        (λ e. ap (instructed_in k (with_beside r x) value) t ∙ instructed_with _ (read_of k r.awaited value).value
        ∙ sym (ap (λ u. with x (instructed_in k r value u)) s)))

    -- the memory is the same whatever the cycle and the set
    pub memory_as_before : memory_after k (with_beside r x) m kind value ≡ memory_after k r m kind value
    unfolding memory_after kept
    memory_as_before = rw refused_alike refl

  -- pin low puts the three to their start values, and keeps the set that it finds
  module _ (i : outside k r ≡ false) (j : outside k (with_beside r x) ≡ false) where
    pub low_as_before : (value : ℕ) → answer k (with_beside r x) m 4 value ≡ with (start_beside x.set) (answer k r m 4 value)
    unfolding answer carried
    low_as_before value = rw (refused_alike i j 4 value) (both_chosen (λ o p. o ≡ with (start_beside x.set) p) (eqb (refusal k (length m) r 4 value) 0) refl refl)

-- ---- any list of cycles in the old set: the same numbers, the same memory, and the same registers but for what stands beside

-- a chip with b beside
abbrev pub placed : Beside → State → State
placed b s = state (with_beside s.registers b) s.memory

-- the registers after an answer and after the same one with y beside: equal but for what stands beside, which is b or y
record Left (r : Registers) (b y : Beside) (o : Option Registers) : Type 0 where
  beside : Beside
  is : after_by (with_beside r b) (registers_with y o) ≡ with_beside (after_by r o) beside
  old : beside.set ≡ Old

left_by_lem : (r : Registers) (b y : Beside) → b.set ≡ Old → y.set ≡ Old → (o : Option Registers) → Left r b y o
left_by_lem r b y e f none = record { beside = b; is = refl; old = e }
left_by_lem r b y e f (some n) = record { beside = y; is = refl; old = f }

-- one cycle, from s and from s with b beside
record Step (k : Sheet) (s : State) (b : Beside) (x : BusCycle) : Type 0 where
  beside : Beside
  steps : step k (placed b s) x ≡ placed beside (step k s x)
  numbered : number k (placed b s) x ≡ number k s x
  old : beside.set ≡ Old

-- two runs
pub record RunAlike (k : Sheet) (s : State) (b : Beside) (xs : List BusCycle) : Type 0 where
  pub beside : Beside
  pub runs : run k (placed b s) xs ≡ placed beside (run k s xs)
  pub numbered : numbers k (placed b s) xs ≡ numbers k s xs

module _ (k : Sheet) (g : Sensible k) where
  -- one cycle, by what it puts beside: b, and at pin low the start values
  step_alike : (s : State) (b y : Beside) (x : BusCycle) → b.set ≡ Old → y.set ≡ Old → outside k s.registers ≡ false → outside k (with_beside s.registers b) ≡ false
      → answer k (with_beside s.registers b) s.memory x.0 x.1 ≡ with y (answer k s.registers s.memory x.0 x.1) → Step k s b x
  step_alike s b y x e f i j a =
      let r = s.registers in
      let l = left_by_lem r b y e f (answer k r s.memory x.0 x.1).registers in
      record {
        beside = l.beside;
        steps =
            ap (λ o. state (after_by (with_beside r b) o.registers) (memory_after k (with_beside r b) s.memory x.0 x.1)) a
            ∙ ap (λ n. state n (memory_after k (with_beside r b) s.memory x.0 x.1)) l.is
            ∙ ap (state _) (memory_as_before k r b s.memory i j x.0 x.1);
        numbered = ap (λ o. o.number) a;
        old = l.old;
      }

  step_as_before : (s : State) (b : Beside) (x : BusCycle) → s.registers.beside.set ≡ Old → b.set ≡ Old → outside k s.registers ≡ false
      → outside k (with_beside s.registers b) ≡ false → Step k s b x
  step_as_before s b x o e i j = split (eqb x.0 4)
      (λ t. step_alike s b (start_beside b.set) x e e i j (low_at x.0 (eqb-true x.0 4 t)))
      (λ t. step_alike s b b x e e i j (old_as_before k s.registers b s.memory i j x.0 x.1 o e (eqb-false x.0 4 t)))
    where
      low_at : (kind : ℕ) → kind ≡ 4 → answer k (with_beside s.registers b) s.memory kind x.1 ≡ with (start_beside b.set) (answer k s.registers s.memory kind x.1)
      low_at kind q = subst (λ (n : ℕ). answer k (with_beside s.registers b) s.memory n x.1 ≡ with (start_beside b.set) (answer k s.registers s.memory n x.1)) (sym q)
          (low_as_before k s.registers b s.memory i j x.1)

  pub runs_as_before : (xs : List BusCycle) (s : State) (b : Beside) → s.registers.beside.set ≡ Old → b.set ≡ Old → outside k s.registers ≡ false
      → outside k (with_beside s.registers b) ≡ false → RunAlike k s b xs
  runs_as_before [] s b o e i j = record { beside = b; runs = refl; numbered = refl }
  runs_as_before (x ∷ xs) s b o e i j =
      let t = placed b s in
      let q = step_as_before s b x o e i j in
      let inside : outside k (with_beside (step k s x).registers q.beside) ≡ false =
      sym (ap (λ u. outside k u.registers) q.steps) ∙ stays_inside k g t.registers t.memory x.0 x.1 j in
      let more = runs_as_before xs (step k s x) q.beside (stays_set k s.registers s.memory x.0 x.1 ∙ o) q.old
      (stays_inside k g s.registers s.memory x.0 x.1 i) inside in
      record {
        beside = more.beside;
        runs = ap (λ u. run k u xs) q.steps ∙ more.runs;
        numbered =
            ap (λ (n : ℕ). n ∷ numbers k (step k t x) xs) q.numbered
            ∙ ap (λ (l : List ℕ). number k s x ∷ l) (ap (λ u. numbers k u xs) q.steps ∙ more.numbered);
      }
