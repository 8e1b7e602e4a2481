-- The mark of a data read: by order 2's sentence after any list of cycles, told by every data read and by nothing else, and fresh again
-- only by a data read. So a list with a data write and no data read leaves it stale, whatever it was.
-- Assumes nothing.
use Prim.Native.Nat.{ℕ}
use mathlib.Core.Path.{◌≡◌, ◌∙◌, refl, ap, sym, subst}
use mathlib.Core.Logic.{◌≢◌, ◌⊎◌, inl, inr}
use mathlib.Core.Bool.{Bool, true, false, cond, not, ◌&&◌}
use mathlib.Core.Option.{Option, none, some}
use mathlib.Core.List.{List, [], ◌∷◌}
use lib.ListN.{length, get_or, drop, replicate}
use lib.Dec.{T, eqb}
use borrow.Author.Tests.{eq-eqb, ne_eqb}
use Rattle.paper.specs.declared.sheet.Sheet.{Sheet}
use Rattle.paper.proofs.Cases.{chosen, split}
use Rattle.instructions.specs.Read.{read_of}
use Rattle.instructions.specs.Added.{read_added}
use Rattle.instructions.specs.declared.added.Added.{Added}
use Rattle.instructions.specs.declared.added.CommandSet.{CommandSet}
use Rattle.instructions.specs.declared.added.CommandSet.TheVariants.{Old, New}
use Rattle.instructions.specs.declared.instruction.Instruction.{Instruction}
use Rattle.registers.specs.declared.Registers.{Registers}
use Rattle.controller.specs.Execute.{ends_reading}
use Rattle.controller.specs.Cycle.{Outcome, refused_with, instructed_by, instructed_added_by, instructed_in, refusal, carried, answer}
use Rattle.controller.specs.Run.{BusCycle}
use Rattle.controller.specs.State.{State, after_by, step, number, run, numbers, powered_up, Restartable}
use Rattle.controller.specs.Mark.{instruction_counts, counts_in, kind_counts, counted, all_counted, last_counted}
use Rattle.controller.proofs.Sets.{in_either, added_moves}
use Rattle.controller.proofs.Acting.{carries}

-- ---- one cycle

-- after an answer to a cycle that counts as c, where it is not refused, the mark is what the cycle counts as, or else what it was
abbrev Marks : Registers → Outcome → Option Bool → Type 0
Marks r o c = (after_by r o.registers).fresh ≡ last_counted r.fresh (cond (eqb o.number 0) c none ∷ [])

-- what holds of two pairs holds of the pair that is chosen
pub both_chosen : {A B : Type 0} (P : A → B → Type 0) (t : Bool) {x y : A} {u v : B} → P x u → P y v → P (cond t x y) (cond t u v)
both_chosen P true p q = p
both_chosen P false p q = q

ended : (e f : Bool) → not e && f ≡ last_counted f (cond e (some false) none ∷ [])
ended true f = refl
ended false f = refl

uncounted : (t f : Bool) → f ≡ last_counted f (cond t none none ∷ [])
uncounted true f = refl
uncounted false f = refl

instruction_marks : (k : Sheet) (r : Registers) (n : ℕ) (x : Option Instruction) → Marks r (instructed_by k r n x) (instruction_counts x)
instruction_marks k r n (some i) = ended (ends_reading i) r.fresh
instruction_marks k r n none = uncounted (eqb n 0) r.fresh

-- one of the new set does not count
added_marks : (r : Registers) (n : ℕ) (x : Option Added) → Marks r (instructed_added_by r n x) none
added_marks r n (some i) = ap (λ q. q.fresh) (added_moves r i)
added_marks r n none = uncounted (eqb n 0) r.fresh

in_set_marks : (k : Sheet) (s : State) (x : BusCycle) (set : CommandSet) → Marks s.registers (instructed_in k s.registers x.1 set) (counts_in k s x set)
in_set_marks k s x Old = instruction_marks k s.registers _ (read_of k s.registers.awaited x.1).value
in_set_marks k s x New = added_marks s.registers _ (read_added s.registers.awaited x.1).value

unless_refused : (r : Registers) (n : ℕ) (t : Bool) → eqb n 0 ≡ t → (o : Outcome) (c : Option Bool) → Marks r o c → Marks r (cond t o (refused_with n)) c
unless_refused r n true e o c h = h
unless_refused r n false e o c h = rw e refl

-- no data read is among the cycles; and a data write is
abbrev pub NoRead : List BusCycle → Type 0
NoRead [] = Unit {0}
NoRead (x ∷ xs) = (x.0 ≢ 3) × NoRead xs

abbrev pub HasWrite : List BusCycle → Type 0
HasWrite [] = ⊥
HasWrite (x ∷ xs) = (x.0 ≡ 1) ⊎ HasWrite xs

module _ (k : Sheet) where
  pub mark_step : (s : State) (x : BusCycle) → (step k s x).registers.fresh ≡ last_counted s.registers.fresh (counted k s x ∷ [])
  unfolding answer carried counted kind_counts
  mark_step s x =
      let r = s.registers in
      let P = Marks r in
      let n = refusal k (length s.memory) r x.0 x.1 in
      unless_refused r n (eqb n 0) refl _ _
      (both_chosen P (eqb x.0 0) (in_set_marks k s x r.beside.set)
      (both_chosen P (eqb x.0 1) refl
      (both_chosen P (eqb x.0 2) refl
      (both_chosen P (eqb x.0 3) refl
      (both_chosen P (eqb x.0 4) refl refl)))))

  -- ---- any list of cycles

  one_more : (f : Bool) (c : Option Bool) (cs : List (Option Bool)) → last_counted (last_counted f (c ∷ [])) cs ≡ last_counted f (c ∷ cs)
  one_more f none cs = refl
  one_more f (some b) cs = refl

  -- after any cycles from any state: what the last one that counts was, or the mark that was there where none counts
  pub mark_history : (xs : List BusCycle) (s : State) → (run k s xs).registers.fresh ≡ last_counted s.registers.fresh (all_counted k s xs)
  mark_history [] s = refl
  mark_history (x ∷ xs) s =
      mark_history xs (step k s x)
      ∙ ap (λ (f : Bool). last_counted f (all_counted k (step k s x) xs)) (mark_step s x)
      ∙ one_more s.registers.fresh (counted k s x) (all_counted k (step k s x) xs)

  -- ---- what is told

  -- what is not refused is carried out
  unrefused : (r : Registers) (m : List ℕ) (kind value : ℕ) → (answer k r m kind value).number ≡ 0 → answer k r m kind value ≡ carried k r m kind value
  unfolding answer
  unrefused r m kind value =
      let n = refusal k (length m) r kind value in
      split (eqb n 0) (λ t e. rw t refl) (λ t e. absurd (subst T (sym (eq-eqb n 0 (rw t at e)) ∙ t) tt))

  -- an accepted data read answers the holder and the mark
  pub read_tells : (r : Registers) (m : List ℕ) (value : ℕ) → (answer k r m 3 value).number ≡ 0
      → ((answer k r m 3 value).byte ≡ some r.holder) × ((answer k r m 3 value).fresh ≡ some r.fresh)
  unfolding carried
  read_tells r m value h = let e = unrefused r m 3 value h in (ap (λ o. o.byte) e, ap (λ o. o.fresh) e)

  instructed_unmarked : (r : Registers) (n : ℕ) (x : Option Instruction) → (instructed_by k r n x).fresh ≡ none
  instructed_unmarked r n (some i) = refl
  instructed_unmarked r n none = refl

  added_unmarked : (r : Registers) (n : ℕ) (x : Option Added) → (instructed_added_by r n x).fresh ≡ none
  added_unmarked r n (some i) = refl
  added_unmarked r n none = refl

  -- and no other cycle answers a mark
  pub others_unmarked : (r : Registers) (m : List ℕ) (kind value : ℕ) → kind ≢ 3 → (answer k r m kind value).fresh ≡ none
  unfolding answer carried
  others_unmarked r m kind value h =
      let P : Outcome → Type 0 = λ o. o.fresh ≡ none in
      chosen P (eqb (refusal k (length m) r kind value) 0)
      (chosen P (eqb kind 0)
      (in_either P k r value (instructed_unmarked r _ (read_of k r.awaited value).value) (added_unmarked r _ (read_added r.awaited value).value) r.beside.set)
      (chosen P (eqb kind 1) refl (chosen P (eqb kind 2) refl (rw (ne_eqb kind 3 h) (chosen P (eqb kind 4) refl refl)))))
      refl

  -- a data read of a chip that can be used, whatever is awaited
  pub next_tells : (s : State) → Restartable k s → (answer k s.registers s.memory 3 0).fresh ≡ some s.registers.fresh
  unfolding carried
  next_tells s h = ap (λ o. o.fresh) (carries h 3 0 refl)

  -- order 2's sentence: from power-up, after any cycles, a data read is told fresh exactly if the last one that counts was a data read
  pub mark_told : (m : List ℕ) (xs : List BusCycle) (value : ℕ) → let s = run k (powered_up k m) xs in
      number k s (3, value) ≡ 0 → (answer k s.registers s.memory 3 value).fresh ≡ some (last_counted false (all_counted k (powered_up k m) xs))
  mark_told m xs value h =
      let s = run k (powered_up k m) xs in
      (read_tells s.registers s.memory value h).1 ∙ ap some (mark_history xs (powered_up k m))

  -- ---- no cycle but a data read makes it fresh

  -- what a cycle counts as leaves a stale mark stale
  abbrev Stales : Option Bool → Type 0
  Stales c = last_counted false (c ∷ []) ≡ false

  instruction_stales : (x : Option Instruction) → Stales (instruction_counts x)
  instruction_stales (some i) = chosen Stales (ends_reading i) refl refl
  instruction_stales none = refl

  in_set_stales : (s : State) (x : BusCycle) (set : CommandSet) → Stales (counts_in k s x set)
  in_set_stales s x Old = instruction_stales (read_of k s.registers.awaited x.1).value
  in_set_stales s x New = refl

  pub stays_stale : (s : State) (x : BusCycle) → x.0 ≢ 3 → s.registers.fresh ≡ false → (step k s x).registers.fresh ≡ false
  unfolding counted kind_counts
  stays_stale s x h e =
      mark_step s x ∙ ap (λ (f : Bool). last_counted f (counted k s x ∷ [])) e
      ∙ chosen Stales (eqb (number k s x) 0)
      (chosen Stales (eqb x.0 0) (in_set_stales s x s.registers.beside.set)
      (chosen Stales (eqb x.0 1) refl (chosen Stales (eqb x.0 2) refl (rw (ne_eqb x.0 3 h) (chosen Stales (eqb x.0 4) refl refl)))))
      refl

  -- ---- a stream: data writes and no data read

  stay_stale : (xs : List BusCycle) (s : State) → NoRead xs → s.registers.fresh ≡ false → (run k s xs).registers.fresh ≡ false
  stay_stale [] s h e = e
  stay_stale (x ∷ xs) s h e = stay_stale xs (step k s x) h.1 (stays_stale s x h.0 e)

  -- an accepted data write
  write_stales : (s : State) (kind value : ℕ) → kind ≡ 1 → number k s (kind, value) ≡ 0 → (step k s (kind, value)).registers.fresh ≡ false
  unfolding counted kind_counts
  write_stales s kind value e a = mark_step s (kind, value) ∙ rw (a, e) refl

  -- after accepted cycles among which is a data write and no data read the next data read is stale
  pub sent_stale : (xs : List BusCycle) (s : State) → numbers k s xs ≡ replicate (length xs) 0 → NoRead xs → HasWrite xs → (run k s xs).registers.fresh ≡ false
  sent_stale [] s a h w = elim w [ ]
  sent_stale (x ∷ xs) s a h (inl e) = stay_stale xs (step k s x) h.1 (write_stales s x.0 x.1 e (ap (λ (l : List ℕ). get_or l 0 0) a))
  sent_stale (x ∷ xs) s a h (inr w) = sent_stale xs (step k s x) (ap (drop 1) a) h.1 w
