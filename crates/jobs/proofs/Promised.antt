-- What read_header and play promise fixes what they answer and leave: what is told of an answer tells all answers apart, since it has an
-- inverse. And each number is given exactly when its line of document 01's table holds and none before it does, and a refusal leaves
-- the output as it was.
-- Assumes nothing.
use Prim.Native.Nat.{ℕ, zero, suc, ◌+◌, ◌≤◌, ◌<◌}
use mathlib.Core.Path.{◌≡◌, sym, ap, subst, ◌∙◌}
use mathlib.Core.Logic.{◌≢◌, ◌⊎◌, inl, inr, ⊎_elim}
use mathlib.Core.Bool.{true, false, cond}
use mathlib.Core.List.{List, ◌++◌}
use native.Mathlib.Omega.{arith}
use borrow.Author.Tests.{ltb-true, ltb-false, lt-ltb, le-ltb}
use lib.Dec.{T, ltb}
use lib.ListN.{length, drop}
use Rattle.std.specs.Prelude.{Result, Ok, Err}
use Rattle.paper.specs.Refusal.{short_job, wrong_header, wrong_cycle, number_of}
use Rattle.paper.specs.Told.{refused, told}
use Rattle.paper.specs.declared.refusal.Refusal.{Refusal}
use Rattle.paper.specs.declared.refusal.Refusal.TheVariants.{ShortJob, WrongHeader, WrongCycle as NoCycle, ShortOutput}
use Rattle.paper.proofs.Refusing.{ok_told, err_told, err_exactly}
use Rattle.paper.proofs.Telling.{told_one, number_one, number_some, not_given}
use Rattle.paper.proofs.Cases.{split, less}
use Rattle.paper.proofs.Either.{or_true}
use Rattle.paper.proofs.Exactly.{Exactly, then, both, same_number, here, past, nowhere}
use Rattle.controller.specs.Cycle.{malformed}
use Rattle.jobs.specs.Header.{word_at, cycle_at, wrong_cycles, job_of, header_of, IsHeader}
use Rattle.jobs.specs.Play.{text_of, longest, IsPlayed}
use Rattle.jobs.specs.declared.header.Job.{Job}
use Rattle.jobs.proofs.Scan.{Sized, sizes_right, right_sizes, sizes_wrong, cycles_wrong, Way, short, sizes, cycle, good, way}
use Rattle.jobs.proofs.Bound.{text_fits}

-- ---- one answer

-- two headers that the promise admits are equal
pub header_one : {file : List ℕ} {a b : Result Job Refusal} → IsHeader file a → IsHeader file b → a ≡ b
header_one {a = a} {b = b} f g = told_one a b (f.tells ∙ sym g.tells)

-- two answers and outputs that the promise admits are equal
pub played_one : {file out : List ℕ} {a b : Result ℕ Refusal} {l m : List ℕ} → IsPlayed file out a l → IsPlayed file out b m → (a ≡ b) × (l ≡ m)
played_one {a = a} {b = b} f g = (told_one a b (f.tells ∙ sym g.tells), f.leaves ∙ sym g.leaves)

-- ---- the tests in the words of the table

-- N, the picture count field, an offset or the total is wrong: not all of them are right
abbrev pub RightSizes : List ℕ → Type 0
RightSizes file = Sized (word_at file 0) (word_at file 2) (word_at file 4) (word_at file 6) (length file)

-- a cycle of those from i on is none
pub record WrongCycle (file : List ℕ) (i n : ℕ) : Type 0 where
  pub at : ℕ
  pub from : i ≤ at
  pub below : at < i + n
  pub wrong : malformed (cycle_at file at).0 (cycle_at file at).1 ≡ true

module _ (file : List ℕ) where
  short_yes : Exactly (ltb (length file) 8 ≡ true) (length file < 8)
  short_yes = (ltb-true (length file) 8, lt-ltb (length file) 8)

  short_no : Exactly (ltb (length file) 8 ≡ false) (8 ≤ length file)
  short_no = (ltb-false (length file) 8, le-ltb (length file) 8)

  sizes_no : Exactly (sizes_wrong file ≡ false) (RightSizes file)
  sizes_no = (sizes_right _ _ _ _ _, right_sizes _ _ _ _ _)

  sizes_yes : Exactly (sizes_wrong file ≡ true) (RightSizes file → ⊥)
  sizes_yes = (
    λ e s. subst T (sym e ∙ right_sizes _ _ _ _ _ s) tt,
    λ h. split (sizes_wrong file) (λ t. t) (λ t. absurd (h (sizes_right _ _ _ _ _ t))),
  )

  later : (i n : ℕ) → WrongCycle file (suc i) n → WrongCycle file i (suc n)
  later i n w = record { at = w.at; from = omega (arith, w.from); below = omega (arith, w.below); wrong = w.wrong }

  wrong_at : (i n : ℕ) → wrong_cycles file i n ≡ true → WrongCycle file i n
  unfolding wrong_cycles
  wrong_at i zero e = absurd (subst T (sym e) tt)
  wrong_at i (suc n) e = split (malformed (cycle_at file i).0 (cycle_at file i).1)
      (λ t. record { at = i; from = omega arith; below = omega arith; wrong = t })
      (λ t. later i n (wrong_at (suc i) n (rw t at e)))

  at_wrong : (i n : ℕ) → WrongCycle file i n → wrong_cycles file i n ≡ true
  unfolding wrong_cycles
  at_wrong i zero w = absurd (omega (arith, w.from, w.below))
  at_wrong i (suc n) w = less i w.at
      (λ h. or_true (malformed (cycle_at file i).0 (cycle_at file i).1) _ (inr (at_wrong (suc i) n (record { at = w.at; from = h; below = omega (arith, w.below); wrong = w.wrong }))))
      (λ h. let e : w.at ≡ i = omega (arith, w.from) in rw (rw e at w.wrong))

  cycles_yes : Exactly (cycles_wrong file ≡ true) (WrongCycle file 0 (word_at file 0))
  cycles_yes = (wrong_at 0 (word_at file 0), at_wrong 0 (word_at file 0))

-- ---- a header is refused with 7, 8 or 9, and with nothing else

number_by_lem : (file : List ℕ) → Way file → (header_of file).number ≡ cond (ltb (length file) 8) short_job (cond (sizes_wrong file) wrong_header (cond (cycles_wrong file) wrong_cycle 0))
number_by_lem file (short h e) = rw (e, lt-ltb _ _ h)
number_by_lem file (sizes h s e) = rw (e, le-ltb _ _ h, s)
number_by_lem file (cycle h s c e) = rw (e, le-ltb _ _ h, s, c)
number_by_lem file (good h s c e) = rw (e, le-ltb _ _ h, s, c)

module _ (file : List ℕ) (a : Result Job Refusal) (f : IsHeader file a) where
  numbered : (e : Refusal) → Exactly (a ≡ Err e) (cond (ltb (length file) 8) short_job (cond (sizes_wrong file) wrong_header (cond (cycles_wrong file) wrong_cycle 0)) ≡ number_of e)
  numbered e = then (err_exactly a e) (same_number (ap (λ t. t.number) f.tells ∙ number_by_lem file (way file)))

  pub header_7 : Exactly (a ≡ Err ShortJob) (length file < 8)
  header_7 =
      then (numbered ShortJob)
      (then
      (here (ltb (length file) 8) 7 _ (nowhere (sizes_wrong file) 8 _ 7 (λ e. omega arith) (nowhere (cycles_wrong file) 9 0 7 (λ e. omega arith) (λ e. omega arith))))
      (short_yes file))

  pub header_8 : Exactly (a ≡ Err WrongHeader) ((8 ≤ length file) × (RightSizes file → ⊥))
  header_8 =
      then (numbered WrongHeader)
      (then (past (ltb (length file) 8) 7 _ 8 (λ e. omega arith))
      (both (short_no file)
      (then (here (sizes_wrong file) 8 _ (nowhere (cycles_wrong file) 9 0 8 (λ e. omega arith) (λ e. omega arith))) (sizes_yes file))))

  pub header_9 : Exactly (a ≡ Err NoCycle) ((8 ≤ length file) × (RightSizes file × WrongCycle file 0 (word_at file 0)))
  header_9 =
      then (numbered NoCycle)
      (then (past (ltb (length file) 8) 7 _ 9 (λ e. omega arith))
      (both (short_no file)
      (then (past (sizes_wrong file) 8 _ 9 (λ e. omega arith))
      (both (sizes_no file) (then (here (cycles_wrong file) 9 0 (λ e. omega arith)) (cycles_yes file))))))

  by_way : Way file → (8 ≤ length file) → RightSizes file → (WrongCycle file 0 (word_at file 0) → ⊥) → a ≡ Ok (job_of file)
  by_way (short h e) l s w = absurd (omega arith)
  by_way (sizes h t e) l s w = absurd ((sizes_yes file).0 t s)
  by_way (cycle h t c e) l s w = absurd (w ((cycles_yes file).0 c))
  by_way (good h t c e) l s w = ok_told a (f.tells ∙ e)

  -- whatever has none of the faults is given
  pub header_always : (8 ≤ length file) → RightSizes file → (WrongCycle file 0 (word_at file 0) → ⊥) → a ≡ Ok (job_of file)
  header_always = by_way (way file)

only_by : (file : List ℕ) (n : ℕ) → Way file → refused n ≡ header_of file → (n ≡ short_job) ⊎ ((n ≡ wrong_header) ⊎ (n ≡ wrong_cycle))
only_by file n (short h e) f = inl (ap (λ t. t.number) (f ∙ e))
only_by file n (sizes h s e) f = inr (inl (ap (λ t. t.number) (f ∙ e)))
only_by file n (cycle h s c e) f = inr (inr (ap (λ t. t.number) (f ∙ e)))
only_by file n (good h s c e) f = absurd (not_given (f ∙ e))

pub header_only : (file : List ℕ) (e : Refusal) → IsHeader file (Err e) → (e ≡ ShortJob) ⊎ ((e ≡ WrongHeader) ⊎ (e ≡ NoCycle))
header_only file e f = ⊎_elim
    (λ n. inl (number_one e ShortJob n))
    (λ g. inr (⊎_elim (λ n. inl (number_one e WrongHeader n)) (λ n. inr (number_one e NoCycle n)) g))
    (only_by file (number_of e) (way file) f.tells)

pub header_not_0 : (file : List ℕ) (e : Refusal) → IsHeader file (Err e) → number_of e ≢ 0
header_not_0 file e f = number_some e

-- ---- play is refused with 5 exactly if the output is shorter than the text, and with nothing else

module _ (file out : List ℕ) (a : Result ℕ Refusal) (left : List ℕ) (f : IsPlayed file out a left) where
  pub played_short : length out < length (text_of file) → (a ≡ Err ShortOutput) × (left ≡ out)
  played_short h = (err_told a (rw (lt-ltb _ _ h) at f.tells), rw (lt-ltb _ _ h) at f.leaves)

  pub played_long : length (text_of file) ≤ length out → (a ≡ Ok (length (text_of file))) × (left ≡ text_of file ++ drop (length (text_of file)) out)
  played_long h = (ok_told a (rw (le-ltb _ _ h) at f.tells), rw (le-ltb _ _ h) at f.leaves)

  pub played_5 : Exactly (a ≡ Err ShortOutput) (length out < length (text_of file))
  played_5 = (
    λ e. less (length out) (length (text_of file)) (λ h. h) (λ h. absurd (not_given (ap told (sym e ∙ (played_long h).0)))),
    λ h. (played_short h).0,
  )

  -- an output of `longest` bytes always gets its text
  pub played_always : longest ≤ length out → (a ≡ Ok (length (text_of file))) × (left ≡ text_of file ++ drop (length (text_of file)) out)
  played_always h = played_long (omega (arith, text_fits file))

pub played_only : (file out : List ℕ) (e : Refusal) (left : List ℕ) → IsPlayed file out (Err e) left → e ≡ ShortOutput
played_only file out e left f = less (length out) (length (text_of file))
    (λ h. number_one e ShortOutput (ap (λ t. t.number) (ap told (played_short file out _ left f h).0)))
    (λ h. absurd (not_given (ap told (played_long file out _ left f h).0)))

-- a refusal's number is not 0, and it leaves the output as it was
pub played_refused_leaves : (file out : List ℕ) (e : Refusal) (left : List ℕ) → IsPlayed file out (Err e) left → (number_of e ≢ 0) × (left ≡ out)
played_refused_leaves file out e left f =
    (number_some e, (played_short file out _ left f ((played_5 file out _ left f).0 (ap Err (played_only file out e left f)))).1)
