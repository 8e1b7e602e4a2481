-- A job's header: the scan over its cycles a turn at a time, and what the test of its sizes says.
-- Assumes nothing.
use Prim.Native.Nat.{ℕ, zero, suc, ◌+◌, ◌*◌, ◌≤◌, ◌<◌}
use mathlib.Core.Path.{◌≡◌, refl, sym, ap, ◌∙◌}
use mathlib.Core.Bool.{Bool, true, false, not, ◌||◌, ◌&&◌}
use mathlib.Core.Logic.{◌⊎◌, inl, inr, ⊎_elim}
use mathlib.Core.List.{List}
use native.Mathlib.Numerals.{add-one}
use native.Mathlib.Omega.{arith}
use borrow.Author.Tests.{ltb-false, eqb-true, not-false, lt-ltb, le-ltb, eq-eqb}
use lib.ListN.{length, get_or}
use Rattle.std.specs.List.{list_any, range_with_len}
use lib.Dec.{ltb, eqb}
use Rattle.std.specs.Prelude.{Result, Ok}
use Rattle.paper.specs.declared.refusal.Refusal.{Refusal}
use Rattle.paper.specs.Refusal.{short_job, wrong_header, wrong_cycle}
use Rattle.paper.specs.Told.{given, refused, told}
use Rattle.paper.proofs.Telling.{given_one, not_given}
use Rattle.paper.proofs.Cases.{split, less}
use Rattle.paper.proofs.Either.{neither}
use Rattle.controller.specs.Cycle.{malformed}
use Rattle.jobs.specs.Header.{word_at, cycle_at, pictures_in, set_in, wrong_count, wrong_sizes, wrong_cycles, job_of, header_of, IsHeader}
use Rattle.jobs.specs.Output.{Holds}
use Rattle.jobs.specs.declared.header.Job.{Job}

-- ---- the cycles, from i on

-- looked for among their numbers
pub scan_listed : (file : List ℕ) (i n : ℕ) → list_any (λ k. malformed (cycle_at file k).0 (cycle_at file k).1) (range_with_len i n) ≡ wrong_cycles file i n
unfolding wrong_cycles
scan_listed file i zero = refl
scan_listed file i (suc n) =
    let e = scan_listed file (i + 1) n in
    ap (λ b. malformed (cycle_at file i).0 (cycle_at file i).1 || b) (e ∙ ap (λ k. wrong_cycles file k n) (add-one i))

-- one cycle more, and none
pub scan_more : (file : List ℕ) (i n : ℕ) → wrong_cycles file i (suc n) ≡ (malformed (cycle_at file i).0 (cycle_at file i).1 || wrong_cycles file (suc i) n)
unfolding wrong_cycles
scan_more file i n = refl

pub scan_none : (file : List ℕ) (i : ℕ) → wrong_cycles file i zero ≡ false
unfolding wrong_cycles
scan_none file i = refl

-- ---- the header's numbers

pub word_is : (file : List ℕ) (at : ℕ) → word_at file at ≡ get_or file at 0 + 256 * get_or file (at + 1) 0
unfolding word_at
word_is file at = refl

-- ---- the sizes

-- what a picture count field is where it is not wrong
abbrev pub Counted : ℕ → Type 0
Counted p = (p ≤ 2) ⊎ ((p ≡ 256) ⊎ (p ≡ 257))

count_by : (a b c : Bool) → (a && b) && c ≡ false → (a ≡ false) ⊎ ((b ≡ false) ⊎ (c ≡ false))
count_by false b c e = inl refl
count_by true false c e = inr (inl refl)
count_by true true c e = inr (inr e)

pub count_right : (p : ℕ) → wrong_count p ≡ false → Counted p
unfolding wrong_count
count_right p e =
    ⊎_elim (λ t. inl (ltb-false 2 p t))
    (⊎_elim (λ t. inr (inl (eqb-true p 256 (not-false (eqb p 256) t)))) (λ t. inr (inr (eqb-true p 257 (not-false (eqb p 257) t)))))
    (count_by (ltb 2 p) (not (eqb p 256)) (not (eqb p 257)) e)

pub right_count : (p : ℕ) → Counted p → wrong_count p ≡ false
unfolding wrong_count
right_count p (inl h) = rw (le-ltb 2 p h)
right_count p (inr (inl h)) = rw h refl
right_count p (inr (inr h)) = rw h refl

-- so many pictures it has
pub counted_two : (p : ℕ) → Counted p → pictures_in p ≤ 2
counted_two p (inl h) = omega arith
counted_two p (inr (inl h)) = omega arith
counted_two p (inr (inr h)) = omega arith

-- what a job's sizes are where none is wrong
pub record Sized (n cycles p pictures total : ℕ) : Type 0 where
  pub few : n ≤ 16000
  pub cycles_at : cycles ≡ 8
  pub counted : Counted p
  pub pictures_at : pictures ≡ 8 + 2 * n
  pub whole : total ≡ 8 + 2 * n + 1188 * pictures_in p

pub sizes_right : (n cycles p pictures total : ℕ) → wrong_sizes n cycles p pictures total ≡ false → Sized n cycles p pictures total
unfolding wrong_sizes
sizes_right n cycles p pictures total e =
    let a = neither _ _ e in
    let b = neither _ _ a.0 in
    let c = neither _ _ b.0 in
    let d = neither _ _ c.0 in
    record {
      few = ltb-false _ _ d.0;
      cycles_at = eqb-true _ _ (not-false _ d.1);
      counted = count_right p c.1;
      pictures_at = eqb-true _ _ (not-false _ b.1);
      whole = eqb-true _ _ (not-false _ a.1);
    }

pub right_sizes : (n cycles p pictures total : ℕ) → Sized n cycles p pictures total → wrong_sizes n cycles p pictures total ≡ false
unfolding wrong_sizes
right_sizes n cycles p pictures total s =
    rw (le-ltb 16000 n s.few, eq-eqb cycles 8 s.cycles_at, right_count p s.counted, eq-eqb pictures (8 + 2 * n) s.pictures_at, eq-eqb total (8 + 2 * n + 1188 * pictures_in p) s.whole)

-- ---- the four ways through a header

-- the four numbers of a header
pub record Words (file : List ℕ) (n cycles p pictures : ℕ) : Type 0 where
  pub first : n ≡ word_at file 0
  pub second : cycles ≡ word_at file 2
  pub third : p ≡ word_at file 4
  pub fourth : pictures ≡ word_at file 6

pub header_short : (file : List ℕ) → length file < 8 → refused short_job ≡ header_of file
unfolding header_of
header_short file h = rw (lt-ltb _ _ h)

module _ (file : List ℕ) {n cycles p pictures : ℕ} (w : Words file n cycles p pictures) (h : 8 ≤ length file) where
  pub header_sizes : wrong_sizes n cycles p pictures (length file) ≡ true → refused wrong_header ≡ header_of file
  unfolding header_of
  header_sizes s = rw (le-ltb _ _ h, ← w.first, ← w.second, ← w.third, ← w.fourth, s)

  module _ (s : wrong_sizes n cycles p pictures (length file) ≡ false) where
    pub header_cycle : wrong_cycles file 0 n ≡ true → refused wrong_cycle ≡ header_of file
    unfolding header_of
    header_cycle e = rw (le-ltb _ _ h, ← w.first, ← w.second, ← w.third, ← w.fourth, s, e)

    pub header_good : wrong_cycles file 0 n ≡ false → given (record { cycles = n; pictures = pictures_in p; set = set_in p }) ≡ header_of file
    unfolding header_of
    header_good e = rw (le-ltb _ _ h, ← w.first, ← w.second, ← w.third, ← w.fourth, s, e)

-- the tests of a whole file
abbrev pub sizes_wrong : List ℕ → Bool
sizes_wrong file = wrong_sizes (word_at file 0) (word_at file 2) (word_at file 4) (word_at file 6) (length file)

abbrev pub cycles_wrong : List ℕ → Bool
cycles_wrong file = wrong_cycles file 0 (word_at file 0)

-- which way a file goes
pub data Way (file : List ℕ) : Type 0 where
  short : length file < 8 → header_of file ≡ refused short_job → Way file
  sizes : 8 ≤ length file → sizes_wrong file ≡ true → header_of file ≡ refused wrong_header → Way file
  cycle : 8 ≤ length file → sizes_wrong file ≡ false → cycles_wrong file ≡ true → header_of file ≡ refused wrong_cycle → Way file
  good : 8 ≤ length file → sizes_wrong file ≡ false → cycles_wrong file ≡ false → header_of file ≡ given (job_of file) → Way file

words : (file : List ℕ) → Words file (word_at file 0) (word_at file 2) (word_at file 4) (word_at file 6)
words file = record { first = refl; second = refl; third = refl; fourth = refl }

pub way : (file : List ℕ) → Way file
way file = less (length file) 8
    (λ h. short h (sym (header_short file h)))
    (λ h. split (sizes_wrong file)
    (λ s. sizes h s (sym (header_sizes file (words file) h s)))
    (λ s. split (cycles_wrong file)
    (λ e. cycle h s e (sym (header_cycle file (words file) h s e)))
    (λ e. good h s e (sym (header_good file (words file) h s e)))))

-- ---- a good header's job is the file's, and the file holds it whole

holds_by : (file : List ℕ) (j : Job) → Way file → given j ≡ header_of file → Holds file j
holds_by file j (short h e) f = absurd (not_given (sym (f ∙ e)))
holds_by file j (sizes h s e) f = absurd (not_given (sym (f ∙ e)))
holds_by file j (cycle h s c e) f = absurd (not_given (sym (f ∙ e)))
holds_by file j (good h s c e) f =
    let z = sizes_right _ _ _ _ _ s in
    rw (given_one (f ∙ e)) (record { few = z.few; two = counted_two (word_at file 4) z.counted; whole = z.whole })

pub header_holds : (file : List ℕ) {a : Result Job Refusal} {j : Job} → IsHeader file a → a ≡ Ok j → Holds file j
header_holds file {j = j} q e = holds_by file j (way file) (ap told (sym e) ∙ q.tells)
