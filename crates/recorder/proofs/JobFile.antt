-- The writer of job files is exactly inverse to the reader: what it writes is read as what it was given, and every file that the reader
-- accepts is what it writes for the file's own command set, cycles and pictures.
-- Assumes nothing.
use Prim.Native.Nat.{ℕ, zero, suc, ◌+◌, ◌*◌, ◌/◌, ◌%◌, ◌≤◌, ◌<◌}
use mathlib.Core.Path.{◌≡◌, refl, sym, ap, subst, ◌∙◌}
use mathlib.Core.Bool.{Bool, true, false, cond, ◌||◌}
use mathlib.Core.Logic.{inl, inr}
use mathlib.Core.List.{List, [], ◌∷◌, ◌++◌, append_assoc}
use native.Mathlib.Omega.{arith}
use native.Mathlib.Numerals.{add-one}
use borrow.Author.Tests.{lt-ltb, le-ltb, eq-eqb}
use lib.Dec.{ltb}
use lib.ListN.{length, get_or, take, drop, length-drop, take-append-drop}
use lib.Seq.{drop-drop, drop_at, take_at, take-length, length-take-le}
use Rattle.std.specs.Prelude.{Ok}
use Rattle.paper.specs.Told.{given}
use Rattle.paper.proofs.Telling.{given_one, not_given}
use Rattle.instructions.specs.Added.{is_new}
use Rattle.instructions.specs.declared.added.CommandSet.{CommandSet}
use Rattle.instructions.specs.declared.added.CommandSet.TheVariants.{Old, New}
use Rattle.controller.specs.Cycle.{malformed}
use Rattle.controller.specs.Run.{BusCycle}
use Rattle.bus.specs.Cycles.{cycles_of}
use Rattle.bus.proofs.Playing.{two, few, cycles_next}
use Rattle.jobs.specs.Header.{word_at, cycle_at, pictures_in, set_in, wrong_cycles, job_of, header_of}
use Rattle.jobs.specs.declared.header.Job.{Job}
use Rattle.jobs.proofs.Scan.{word_is, scan_more, scan_none, Words, Counted, Sized, sizes_right, right_sizes, header_good, cycles_wrong, Way, short, sizes, cycle, good, way, header_holds}
use Rattle.recorder.specs.Cycles.{any_wrong, bytes_of}
use Rattle.recorder.specs.Job.{word_bytes, most_pictures, count_field, header_bytes, job_bytes, wrong_pictures, job_refusal, cycles_from, file_cycles, file_pictures}
use Rattle.recorder.proofs.CycleBytes.{bytes_length, bytes_cycles, cycles_bytes, wrong_none, wrong_next, Bytes}
use Rattle.recorder.proofs.Answers.{header_length, job_length}

-- ---- a file's cycles

from_next : (file : List ℕ) (i n : ℕ) → cycles_from file i (suc n) ≡ cycle_at file i ∷ cycles_from file (suc i) n
unfolding cycles_from
from_next file i n = refl

from_none : (file : List ℕ) (i : ℕ) → cycles_from file i zero ≡ []
unfolding cycles_from
from_none file i = refl

pub from_count : (file : List ℕ) (i n : ℕ) → length (cycles_from file i n) ≡ n
unfolding cycles_from
from_count file i zero = refl
from_count file i (suc n) = ap suc (from_count file (suc i) n)

-- two bytes each, behind the header
pub same_cycles : (file : List ℕ) (i n : ℕ) → 8 + 2 * (i + n) ≤ length file → cycles_of (take (2 * n) (drop (8 + 2 * i) file)) ≡ cycles_from file i n
unfolding cycles_from
same_cycles file i zero h = few (take 0 (drop (8 + 2 * i) file)) (omega arith)
same_cycles file i (suc n) h =
    let e : 2 * suc n ≡ suc (suc (2 * n)) = omega arith in
    let f : suc (suc (8 + 2 * i)) ≡ 8 + 2 * suc i = omega arith in
    let g : suc (8 + 2 * i) ≡ 9 + 2 * i = omega arith in
    rw (e, two file (8 + 2 * i) (omega arith), cycles_next, f, g)
    (ap (λ (xs : List BusCycle). cycle_at file i ∷ xs) (same_cycles file (suc i) n (omega arith)))

-- the reader's test of them is the writer's
wrong_same : (file : List ℕ) (i n : ℕ) → wrong_cycles file i n ≡ any_wrong (cycles_from file i n)
wrong_same file i zero = scan_none file i ∙ sym (ap any_wrong (from_none file i) ∙ wrong_none)
wrong_same file i (suc n) =
    scan_more file i n
    ∙ ap (λ (z : Bool). malformed (cycle_at file i).0 (cycle_at file i).1 || z) (wrong_same file (suc i) n)
    ∙ sym (ap any_wrong (from_next file i n) ∙ wrong_next (cycle_at file i) (cycles_from file (suc i) n))

-- ---- a file that the reader accepts

-- its cycles as they stand behind the header
abbrev pub cycle_part : List ℕ → Job → List ℕ
cycle_part file j = take (2 * j.cycles) (drop 8 file)

pub part_cycles : (file : List ℕ) (j : Job) → header_of file ≡ given j → cycles_of (cycle_part file j) ≡ file_cycles file j
part_cycles file j e = same_cycles file 0 j.cycles (omega (arith, (header_holds file {a = Ok j} (record { tells = sym e }) refl).whole))

right_by : (file : List ℕ) (j : Job) → Way file → header_of file ≡ given j → any_wrong (file_cycles file j) ≡ false
right_by file j (short h e) f = absurd (not_given (sym e ∙ f))
right_by file j (sizes h s e) f = absurd (not_given (sym e ∙ f))
right_by file j (cycle h s c e) f = absurd (not_given (sym e ∙ f))
right_by file j (good h s c e) f =
    subst (λ (i : Job). any_wrong (file_cycles file i) ≡ false) (given_one (sym e ∙ f)) (sym (wrong_same file 0 (word_at file 0)) ∙ c)

-- none of them is wrong
pub file_right : (file : List ℕ) (j : Job) → header_of file ≡ given j → any_wrong (file_cycles file j) ≡ false
file_right file j f = right_by file j (way file) f

-- ---- what is written is read

-- the picture count field tells set and count apart
field_by : (new : Bool) (p : ℕ) → p ≤ 2 → (pictures_in (cond new (256 + p) p) ≡ p) × (cond new (256 + p) p < 65536)
field_by true p h = (omega arith, omega arith)
field_by false p h = (omega arith, omega arith)

set_again : (set : CommandSet) (p : ℕ) → p ≤ 2 → set_in (count_field set p) ≡ set
set_again Old p h = rw (lt-ltb p 256 (omega arith)) refl
set_again New p h = rw (le-ltb (256 + p) 256 (omega arith)) refl

pub most_two : (set : CommandSet) → most_pictures set ≤ 2
most_two Old = omega arith
most_two New = omega arith

counted : (set : CommandSet) (p : ℕ) → p ≤ most_pictures set → Counted (count_field set p)
counted Old p h = inl h
counted New zero h = inr (inl refl)
counted New (suc zero) h = inr (inr refl)
counted New (suc (suc p)) h = absurd (omega arith)

-- and a right one is told by them
counted_field : (q : ℕ) → Counted q → (count_field (set_in q) (pictures_in q) ≡ q) × (pictures_in q ≤ most_pictures (set_in q))
counted_field q (inl h) = let e : pictures_in q ≡ q = omega arith in rw (lt-ltb q 256 (omega arith)) (e, omega arith)
counted_field q (inr (inl h)) = rw h (refl, omega arith)
counted_field q (inr (inr h)) = rw h (refl, omega arith)

module _ (n p : ℕ) (few : n ≤ 16000) (small : p < 65536) (rest : List ℕ) where
  words : Words (header_bytes n p ++ rest) n 8 p (8 + 2 * n)
  unfolding header_bytes word_bytes
  words = record {
    first = rw (word_is (header_bytes n p ++ rest) 0) (omega arith);
    second = rw (word_is (header_bytes n p ++ rest) 2) refl;
    third = rw (word_is (header_bytes n p ++ rest) 4) (omega arith);
    fourth = rw (word_is (header_bytes n p ++ rest) 6) (omega arith);
  }

-- a job of these cycles and so many pictures
abbrev pub job_for : CommandSet → List BusCycle → ℕ → Job
job_for set xs p = record { cycles = length xs; pictures = p; set = set }

-- the reader accepts a file, and finds this set, these cycles and pictures in it
pub record JobRead (set : CommandSet) (xs : List BusCycle) (p : ℕ) (pictures file : List ℕ) : Type 0 where
  pub header : header_of file ≡ given (job_for set xs p)
  pub cycles : file_cycles file (job_for set xs p) ≡ xs
  pub behind : file_pictures file (job_for set xs p) ≡ pictures

module _ (set : CommandSet) (xs : List BusCycle) (p : ℕ) (pictures : List ℕ) where
  abbrev made : List ℕ
  made = job_bytes set xs p pictures

  -- behind the header stand the cycles, and behind them the pictures
  body : drop 8 made ≡ bytes_of xs ++ pictures
  unfolding job_bytes
  body = drop_at (header_bytes (length xs) (count_field set p)) (bytes_of xs ++ pictures) 8 (header_length (length xs) (count_field set p))

  read_cycles : file_cycles made (job_for set xs p) ≡ xs
  read_cycles =
      let l = job_length set xs p pictures in
      sym (same_cycles made 0 (length xs) (omega arith))
      ∙ ap (λ (t : List ℕ). cycles_of (take (2 * length xs) t)) body
      ∙ ap cycles_of (take_at (bytes_of xs) pictures (2 * length xs) (bytes_length xs))
      ∙ bytes_cycles xs

  read_pictures : file_pictures made (job_for set xs p) ≡ pictures
  read_pictures =
      sym (drop-drop (2 * length xs) 8 made)
      ∙ ap (drop (2 * length xs)) body
      ∙ drop_at (bytes_of xs) pictures (2 * length xs) (bytes_length xs)

  pub job_read : length pictures ≡ 1188 * p → length xs ≤ 16000 → p ≤ most_pictures set → any_wrong xs ≡ false → JobRead set xs p pictures made
  unfolding job_bytes
  job_read size few most formed =
      let l = job_length set xs p pictures in
      let m = most_two set in
      let two : p ≤ 2 = omega arith in
      let f = field_by (is_new set) p two in
      let h : 8 ≤ length made = omega arith in
      let whole : length made ≡ 8 + 2 * length xs + 1188 * pictures_in (count_field set p) = rw f.0 (omega arith) in
      let z : Sized (length xs) 8 (count_field set p) (8 + 2 * length xs) (length made) = record { few = few; cycles_at = refl; counted = counted set p most; pictures_at = refl; whole = whole } in
      let right = wrong_same made 0 (length xs) ∙ ap any_wrong read_cycles ∙ formed in
      let e = sym (header_good made (words (length xs) (count_field set p) few f.1 (bytes_of xs ++ pictures)) h (right_sizes _ _ _ _ _ z) right) in
      record {
        header =
            e ∙ ap (λ (q : ℕ). given (record { cycles = length xs; pictures = q; set = set_in (count_field set p) })) f.0
            ∙ ap (λ (x : CommandSet). given (job_for x xs p)) (set_again set p two);
        cycles = read_cycles;
        behind = read_pictures;
      }

-- ---- what is read is written

word_back : (a b : ℕ) → a < 256 → b < 256 → word_bytes (a + 256 * b) ≡ a ∷ b ∷ []
unfolding word_bytes
word_back a b h k =
    let e : (a + 256 * b) % 256 ≡ a = omega arith in
    let f : (a + 256 * b) / 256 ≡ b = omega arith in
    let g : b % 256 ≡ b = omega arith in
    rw (e, f, g)

-- a number of a header, written, and what is behind it
word_then : (file : List ℕ) (at : ℕ) → Bytes file → suc at < length file → word_bytes (word_at file at) ++ drop (suc (suc at)) file ≡ drop at file
word_then file at b h = rw (word_is file at, add-one at, word_back (get_or file at 0) (get_or file (suc at) 0) (b at) (b (suc at))) (sym (two file at h))

header_then : (file : List ℕ) → Bytes file → 8 ≤ length file
    → (word_bytes (word_at file 0) ++ (word_bytes (word_at file 2) ++ (word_bytes (word_at file 4) ++ word_bytes (word_at file 6)))) ++ drop 8 file ≡ file
header_then file b h =
    let w0 = word_bytes (word_at file 0) in
    let w2 = word_bytes (word_at file 2) in
    let w4 = word_bytes (word_at file 4) in
    let w6 = word_bytes (word_at file 6) in
    append_assoc w0 (w2 ++ (w4 ++ w6)) (drop 8 file)
    ∙ ap (λ (l : List ℕ). w0 ++ l)
    (append_assoc w2 (w4 ++ w6) (drop 8 file)
    ∙ ap (λ (l : List ℕ). w2 ++ l)
    (append_assoc w4 w6 (drop 8 file) ∙ ap (λ (l : List ℕ). w4 ++ l) (word_then file 6 b (omega arith)) ∙ word_then file 4 b (omega arith))
    ∙ word_then file 2 b (omega arith))
    ∙ word_then file 0 b (omega arith)

pub pictures_right : (total p : ℕ) → total ≡ 1188 * p → wrong_pictures total p ≡ false
unfolding wrong_pictures
pictures_right total p e = rw (eq-eqb total (1188 * p) e) refl

-- a file and the job that it holds: its parts, written, are the file, and the writer refuses nothing but a short output
pub record JobAgain (file : List ℕ) (j : Job) : Type 0 where
  pub file_again : job_bytes j.set (file_cycles file j) j.pictures (file_pictures file j) ≡ file
  pub only_short : (out : List ℕ) → job_refusal j.set (file_cycles file j) j.pictures (file_pictures file j) out ≡ cond (ltb (length out) (length file)) 5 0

module _ (file : List ℕ) (b : Bytes file) (h : 8 ≤ length file) (z : Sized (word_at file 0) (word_at file 2) (word_at file 4) (word_at file 6) (length file))
    (c : cycles_wrong file ≡ false) where
  abbrev n : ℕ
  n = word_at file 0

  abbrev field : ℕ
  field = word_at file 4

  abbrev xs : List BusCycle
  xs = file_cycles file (job_of file)

  -- the cycles' bytes are the file's
  part : bytes_of xs ≡ take (2 * n) (drop 8 file)
  part =
      let l = length-drop 8 file in
      let m : length (take (2 * n) (drop 8 file)) ≡ 2 * n = length-take-le (2 * n) (drop 8 file) (omega (arith, z.whole)) in
      let k : 2 * (length (take (2 * n) (drop 8 file)) / 2) ≡ length (take (2 * n) (drop 8 file)) = omega arith in
      ap bytes_of (sym (same_cycles file 0 n (omega (arith, z.whole))))
      ∙ cycles_bytes (take (2 * n) (drop 8 file))
      ∙ ap (λ (i : ℕ). take i (take (2 * n) (drop 8 file))) k
      ∙ take-length (take (2 * n) (drop 8 file))

  pictures_long : length (file_pictures file (job_of file)) ≡ 1188 * pictures_in field
  pictures_long = let l = length-drop (8 + 2 * n) file in omega (arith, z.whole)

  again : job_bytes (set_in field) xs (pictures_in field) (file_pictures file (job_of file)) ≡ file
  unfolding job_bytes header_bytes
  again =
      let f : bytes_of xs ++ file_pictures file (job_of file) ≡ drop 8 file
      = ap (λ (l : List ℕ). l ++ file_pictures file (job_of file)) part
      ∙ ap (λ (l : List ℕ). take (2 * n) (drop 8 file) ++ l) (sym (drop-drop (2 * n) 8 file)) ∙ take-append-drop (2 * n) (drop 8 file) in
      let k = rw (z.cycles_at, z.pictures_at) at (header_then file b h) in
      rw (f, from_count file 0 n, (counted_field field z.counted).0) k

  only : (out : List ℕ) → job_refusal (set_in field) xs (pictures_in field) (file_pictures file (job_of file)) out ≡ cond (ltb (length out) (length file)) 5 0
  unfolding job_refusal
  only out =
      let formed : any_wrong xs ≡ false = sym (wrong_same file 0 n) ∙ c in
      rw (pictures_right _ (pictures_in field) pictures_long, again, from_count file 0 n, le-ltb 16000 n z.few, le-ltb _ _ (counted_field field z.counted).1, formed) refl

by_way : (file : List ℕ) (j : Job) → Bytes file → Way file → header_of file ≡ given j → JobAgain file j
by_way file j b (short h e) f = absurd (not_given (sym e ∙ f))
by_way file j b (sizes h s e) f = absurd (not_given (sym e ∙ f))
by_way file j b (cycle h s c e) f = absurd (not_given (sym e ∙ f))
by_way file j b (good h s c e) f =
    let z = sizes_right _ _ _ _ _ s in
    subst (JobAgain file) (given_one (sym e ∙ f)) (record { file_again = again file b h z c; only_short = only file b h z c })

-- every file that the reader accepts is written from its own set, cycles and pictures
pub job_again : (file : List ℕ) (j : Job) → Bytes file → header_of file ≡ given j → JobAgain file j
job_again file j b f = by_way file j b (way file) f
