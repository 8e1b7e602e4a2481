-- What the promises fix. Two results that a run's promise admits are equal, outputs included; each number is given exactly when its line
-- of document 01's table holds and none before it does; a refusal leaves everything; and what is in range stays in range.
-- Assumes nothing.
use Prim.Native.Nat.{ℕ, ◌*◌, ◌<◌}
use mathlib.Core.Path.{◌≡◌, ◌∙◌, refl, ap, sym, subst}
use mathlib.Core.Logic.{◌≢◌, ◌⊎◌, inl, inr}
use mathlib.Core.Bool.{Bool, true, false, cond, not, ◌||◌}
use mathlib.Core.Option.{some}
use mathlib.Core.List.{List, [], ◌∷◌, map}
use native.Mathlib.Omega.{arith}
use lib.ListN.{length}
use lib.Dec.{T, ltb, eqb}
use borrow.Author.Tests.{eqb-true, eqb-false, eq-eqb, ne_eqb, not-true, not-false}
use Rattle.std.specs.Prelude.{Result, Ok, Err}
use Rattle.paper.specs.Refusal.{wrong_size, out_of_range, short_output, number_of}
use Rattle.paper.specs.Told.{given, refused, told}
use Rattle.paper.specs.declared.refusal.Refusal.{Refusal}
use Rattle.paper.specs.declared.refusal.Refusal.TheVariants.{WrongSize, OutOfRange, ShortOutput}
use Rattle.paper.specs.Sheet.{Sensible, sheet0713}
use Rattle.paper.specs.declared.sheet.Sheet.{Sheet}
use Rattle.paper.specs.Answers.{left_by}
use Rattle.paper.specs.Sheet.{sensible0713}
use Rattle.paper.proofs.Refusing.{ok_told, err_exactly, told_silent}
use Rattle.paper.proofs.Telling.{told_one, number_some, some_one, none_some, given_one, not_given}
use Rattle.paper.proofs.Answering.{if_split, if_both, number_number, refused_number, Silent, nothing_given}
use Rattle.paper.proofs.Cases.{split}
use Rattle.paper.proofs.Exactly.{Exactly, then, both, same_number, below, or_exactly, here, past, nowhere}
use Rattle.registers.specs.Registers.{outside}
use Rattle.registers.specs.declared.Registers.{Registers}
use Rattle.state.specs.Packed.{packed, unpacked}
use Rattle.state.specs.Unfit.{unfit, unfit_number}
use Rattle.state.proofs.Accepting.{unfit_some, Accepted, accepted_left}
use Rattle.controller.specs.Run.{BusCycle}
use Rattle.controller.specs.State.{State, state, step, number, run, numbers}
use Rattle.controller.proofs.Keeping.{stays_inside}
use Rattle.bus.specs.Cycles.{cycles_of, turns}
use Rattle.bus.specs.Run.{Outputs, number_entry, too_short, run_refusal, refusal_of, ran_from, IsRun}
use Rattle.bus.specs.Packed.{RunOn, RunOut}

-- ---- one answer

module _ {k : Sheet} {r : Registers} {m cycles : List ℕ} {o : Outputs} where
  pub run_one : {a b : Result Registers Refusal} {left right : List ℕ} {x y : Outputs} → IsRun k r m cycles o a left x → IsRun k r m cycles o b right y
      → (a ≡ b) × (left ≡ right) × (x ≡ y)
  run_one {a} {b} f g =
      (told_one a b (f.tells ∙ sym g.tells), f.leaves ∙ sym g.leaves, f.answers ∙ sym g.answers)

  -- a refusal carries a number, and leaves memory and outputs
  pub run_refused_leaves : {e : Refusal} {left : List ℕ} {x : Outputs} → IsRun k r m cycles o (Err e) left x → (number_of e ≢ 0) × (left ≡ m) × (x ≡ o)
  run_refused_leaves {e} f =
      let e = refused_number (refusal_of k r m cycles o) (number_of e) (ran_from k r m cycles).registers f.tells in
      (e.0, f.leaves ∙ rw e.1 refl, f.answers ∙ rw e.1 refl)

-- ---- each number exactly when

-- one of the four outputs is shorter than so many cycles
abbrev pub ShortOutputs : ℕ → Outputs → Type 0
ShortOutputs n o = (((length o.numbers < n) ⊎ (length o.reads < n)) ⊎ (length o.bytes < n)) ⊎ (length o.fresh < n)

short_yes : (n : ℕ) (o : Outputs) → Exactly (too_short n o ≡ true) (ShortOutputs n o)
unfolding too_short
short_yes n o =
    let a = ltb (length o.numbers) n in
    let b = ltb (length o.reads) n in
    let c = ltb (length o.bytes) n in
    let d = ltb (length o.fresh) n in
    or_exactly (a || b || c) d (or_exactly (a || b) c (or_exactly a b (below n) (below n)) (below n)) (below n)

module _ {k : Sheet} {r : Registers} {m cycles : List ℕ} {o : Outputs} {a : Result Registers Refusal} {left : List ℕ} {x : Outputs} (f : IsRun k r m cycles o a left x) where
  abbrev wrong : Bool
  wrong = not (eqb (length m) (9 * k.width))

  abbrev short : Bool
  short = too_short (length (cycles_of cycles)) o

  run_number : (told a).number ≡ cond wrong wrong_size (cond (outside k r) out_of_range (cond short short_output 0))
  unfolding run_refusal
  run_number = ap (λ t. t.number) f.tells ∙ number_number (refusal_of k r m cycles o) (ran_from k r m cycles).registers

  numbered : (e : Refusal) → Exactly (a ≡ Err e) (cond wrong wrong_size (cond (outside k r) out_of_range (cond short short_output 0)) ≡ number_of e)
  numbered e = then (err_exactly a e) (same_number run_number)

  wrong_no : Exactly (wrong ≡ false) (length m ≡ 9 * k.width)
  wrong_no = (λ e. eqb-true (length m) (9 * k.width) (not-false (eqb (length m) (9 * k.width)) e), λ h. rw (eq-eqb (length m) (9 * k.width) h))

  pub run_1 : Exactly (a ≡ Err WrongSize) (length m ≢ 9 * k.width)
  run_1 =
      then (numbered WrongSize)
      (then
      (here wrong 1 _ (nowhere (outside k r) 2 _ 1 (λ e. omega arith) (nowhere short 5 0 1 (λ e. omega arith) (λ e. omega arith))))
      (λ e. eqb-false (length m) (9 * k.width) (not-true (eqb (length m) (9 * k.width)) e), λ h. rw (ne_eqb (length m) (9 * k.width) h)))

  pub run_2 : Exactly (a ≡ Err OutOfRange) ((length m ≡ 9 * k.width) × (outside k r ≡ true))
  run_2 =
      then (numbered OutOfRange)
      (then (past wrong 1 _ 2 (λ e. omega arith))
      (both wrong_no (here (outside k r) 2 _ (nowhere short 5 0 2 (λ e. omega arith) (λ e. omega arith)))))

  pub run_5 : Exactly (a ≡ Err ShortOutput) ((length m ≡ 9 * k.width) × ((outside k r ≡ false) × ShortOutputs (length (cycles_of cycles)) o))
  run_5 =
      then (numbered ShortOutput)
      (then (past wrong 1 _ 5 (λ e. omega arith))
      (both wrong_no
      (then (past (outside k r) 2 _ 5 (λ e. omega arith))
      (both (λ e. e, λ e. e) (then (here short 5 0 (λ e. omega arith)) (short_yes (length (cycles_of cycles)) o))))))

  -- whatever has none of the faults is played
  pub run_always : length m ≡ 9 * k.width → outside k r ≡ false → (ShortOutputs (length (cycles_of cycles)) o → ⊥) → a ≡ Ok (ran_from k r m cycles).registers
  unfolding run_refusal
  run_always fit e h =
      let t : short ≡ false = split short (λ u. absurd (h ((short_yes (length (cycles_of cycles)) o).0 u))) (λ u. u) in
      ok_told a (f.tells ∙ rw (wrong_no.1 fit, e, t) refl)

-- ---- what is answered is the chip after the cycles

chip_is : (number : ℕ) (s : State) (m : List ℕ) {r : Registers} {left : List ℕ} → given r ≡ cond (eqb number 0) (given s.registers) (refused number)
    → left ≡ cond (eqb number 0) s.memory m → state r left ≡ s
chip_is number s m {r} {left} e l = split (eqb number 0)
    (λ t. ap (λ (x : Registers). state x left) (given_one (e ∙ rw t refl)) ∙ ap (state s.registers) (l ∙ rw t refl))
    (λ t. absurd (not_given {n = number} (sym (e ∙ rw t refl))))

pub run_is : {k : Sheet} {r r' : Registers} {m cycles left : List ℕ} {o x : Outputs} → IsRun k r m cycles o (Ok r') left x
    → state r' left ≡ ran_from k r m cycles
run_is {k} {r} {m = m} {cycles = cycles} {o = o} f = chip_is (refusal_of k r m cycles o) (ran_from k r m cycles) m f.tells f.leaves

-- the numbers that its outputs tell are those that the cycles are refused with, each from the chip that the cycles before it left
pub numbers_are : (k : Sheet) (s : State) (xs : List BusCycle) → map number_entry (turns k s xs) ≡ numbers k s xs
numbers_are k s [] = refl
numbers_are k s (x ∷ xs) = ap (λ (l : List ℕ). number k s x ∷ l) (numbers_are k (step k s x) xs)

-- ---- in range stays in range

module _ (k : Sheet) (g : Sensible k) where
  run_inside : (s : State) (xs : List BusCycle) → outside k s.registers ≡ false → outside k (run k s xs).registers ≡ false
  run_inside s [] h = h
  run_inside s (x ∷ xs) h = run_inside (step k s x) xs (stays_inside k g s.registers s.memory x.0 x.1 h)

  pub stay_inside : {r r' : Registers} {m cycles left : List ℕ} {o x : Outputs} → outside k r ≡ false → IsRun k r m cycles o (Ok r') left x → outside k r' ≡ false
  stay_inside {r} {m = m} {cycles = cycles} h f =
      subst (λ (s : State). outside k s.registers ≡ false) (sym (run_is f)) (run_inside (state r m) (cycles_of cycles) h)

-- ---- on the packed state

module _ (s m cycles : List ℕ) (o : Outputs) where
  pub run_out_one : {s₁ s₂ m₁ m₂ : List ℕ} {o₁ o₂ : Outputs} {r₁ r₂ : ℕ} → RunOut s m cycles o s₁ m₁ o₁ r₁ → RunOut s m cycles o s₂ m₂ o₂ r₂
      → (s₁ ≡ s₂) × (m₁ ≡ m₂) × (o₁ ≡ o₂) × (r₁ ≡ r₂)
  run_out_one f g =
      let p = if_both (unfit s) f.promised g.promised (λ p q. (told_one f.answer g.answer (p.0 ∙ sym q.0), p.1 ∙ sym q.1, p.2 ∙ sym q.2)) (λ p q. run_one p q) in (
        f.left ∙ ap (λ a. left_by packed s (told a).value) p.0 ∙ sym g.left,
        p.1,
        p.2,
        f.number ∙ ap (λ a. (told a).number) p.0 ∙ sym g.number,
      )

  module _ {s' m' : List ℕ} {o' : Outputs} {r : ℕ} (f : RunOut s m cycles o s' m' o' r) where
    -- 0 is answered exactly if the state stands for registers in range, the memory fits, and the outputs have room
    pub run_out_0 : Exactly (r ≡ 0) ((unfit s ≡ false) × (refusal_of sheet0713 (unpacked s) m cycles o ≡ 0))
    run_out_0 = then (same_number (f.number ∙ numbered_lem)) (past (unfit s) _ _ 0 (unfit_some (not (eqb (length m) (9 * sheet0713.width)))))
      where
        numbered_lem : (told f.answer).number ≡ cond (unfit s) (unfit_number (not (eqb (length m) (9 * sheet0713.width)))) (refusal_of sheet0713 (unpacked s) m cycles o)
        numbered_lem = if_split (unfit s) f.promised
            (λ t p. ap (λ a. a.number) p.0 ∙ rw t refl)
            (λ t p. ap (λ a. a.number) p.tells ∙ number_number (refusal_of sheet0713 (unpacked s) m cycles o) (ran_from sheet0713 (unpacked s) m cycles).registers ∙ rw t refl)

    -- a refusal leaves state, memory and outputs
    pub run_out_refused_leaves : r ≢ 0 → (s' ≡ s) × (m' ≡ m) × (o' ≡ o)
    run_out_refused_leaves h =
        let n : (told f.answer).number ≢ 0 = λ z. h (f.number ∙ z) in
        let kept = by_answer f.answer n f.promised in
        (f.left ∙ ap (left_by packed s) (nothing_given (told f.answer) (told_silent f.answer) n), kept.0, kept.1)
      where
        by_answer : (a : Result Registers Refusal) → (told a).number ≢ 0 → RunOn s m cycles o a m' o' → (m' ≡ m) × (o' ≡ o)
        by_answer (Ok x) n p = absurd (n refl)
        by_answer (Err x) n p = if_split (unfit s) p (λ t q. (q.1, q.2)) (λ t q. let e = run_refused_leaves q in (e.1, e.2))

    -- a state that is accepted stays one
    pub run_out_again : Accepted sheet0713 s → Accepted sheet0713 s'
    run_out_again a = accepted_left sheet0713 s (told f.answer).value a (after_ranged f.answer f.promised) f.left
      where
        after_ranged : (x : Result Registers Refusal) → RunOn s m cycles o x m' o' → (n : Registers) → (told x).value ≡ some n → outside sheet0713 n ≡ false
        after_ranged (Ok q) p n e = if_split (unfit s) p (λ t u. absurd (subst T (sym t ∙ a.0) tt))
            (λ t u. subst (λ (y : Registers). outside sheet0713 y ≡ false) (some_one e)
            (stay_inside sheet0713 sensible0713 a.1 u))
        after_ranged (Err q) p n e = absurd (none_some e)
