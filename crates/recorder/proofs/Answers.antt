-- The ways through the three public calls, by their tests: each refusal, and what is put out where there is none.
-- Assumes nothing.
use Prim.Native.Nat.{ℕ, ◌+◌, ◌*◌, ◌/◌, ◌%◌, ◌-◌, ◌≤◌, ◌<◌}
use mathlib.Core.Path.{◌≡◌, refl, sym, ◌∙◌}
use mathlib.Core.Bool.{true, false, not, ◌||◌}
use mathlib.Core.List.{List, ◌++◌, append_assoc}
use native.Mathlib.Nat.{zero-add}
use native.Mathlib.Omega.{arith}
use borrow.Author.Tests.{lt-ltb, le-ltb, eqb-true, eqb-false, eq-eqb, ne_eqb, not-false}
use lib.Dec.{eqb}
use lib.ListN.{length, take, drop, length-append}
use lib.Seq.{sets, sets-eq, take_at, drop_at, drop-drop, length-take-le}
use borrow.Rule.Slice.PartMut.{put_mid}
use Rattle.std.specs.Prelude.{Result, Ok, Err}
use Rattle.paper.specs.Refusal.{number_of}
use Rattle.paper.specs.Over.{over}
use Rattle.paper.specs.declared.refusal.Refusal.{Refusal}
use Rattle.paper.specs.declared.refusal.Refusal.TheVariants.{WrongSize, OutsideField, ShortOutput}
use Rattle.paper.proofs.Cases.{split}
use Rattle.paper.proofs.Telling.{number_some}
use Rattle.instructions.specs.declared.added.CommandSet.{CommandSet}
use Rattle.controller.specs.Run.{BusCycle}
use Rattle.bus.specs.Cycles.{cycles_of}
use Rattle.bus.proofs.Playing.{cycles_count}
use Rattle.jobs.specs.Output.{Put}
use Rattle.recorder.specs.Cycles.{any_wrong, bytes_of}
use Rattle.recorder.specs.Written.{Written}
use Rattle.recorder.specs.Text.{cycles_text, text_refusal, IsWrittenText, cycles_in, bad_text, read_refusal, told_lines, told_by, IsReadText}
use Rattle.recorder.specs.Job.{word_bytes, most_pictures, count_field, header_bytes, job_bytes, wrong_pictures, job_refusal, IsWrittenJob}
use Rattle.recorder.specs.Scan.{Fronted}
use Rattle.recorder.specs.declared.text.Unread.{Unread}
use Rattle.recorder.specs.declared.text.Unread.TheVariants.{BadLine, Refused}
use Rattle.recorder.proofs.CycleBytes.{bytes_length, cycles_bytes}

-- ---- a writer's answer by its number

module _ {bytes out : List ℕ} where
  written_refused : {number : ℕ} (r : Refusal) → number ≡ number_of r → Written number bytes out (Err r) out
  written_refused r e = let z = ne_eqb (number_of r) 0 (number_some r) in rw e (record { tells = rw z refl; leaves = rw z refl })

  written_given : {number : ℕ} {n : ℕ} {left : List ℕ} → number ≡ 0 → n ≡ length bytes → left ≡ over bytes out → Written number bytes out (Ok n) left
  written_given e f g = rw (e, f) (record { tells = refl; leaves = g })

-- bytes set into an output that holds them stand in front of its rest
set_in_front : (bytes out : List ℕ) → length bytes ≤ length out → sets out 0 bytes ≡ over bytes out
set_in_front bytes out h =
    let f : 0 + length bytes ≤ length out = omega arith in
    rw zero-add at (sets-eq bytes out 0 f)

-- ---- write_text

module _ (cycles out : List ℕ) where
  pub text_many : 16000 < length cycles / 2 → IsWrittenText cycles out (Err OutsideField) out
  unfolding text_refusal
  text_many h = written_refused OutsideField (rw (cycles_count cycles, lt-ltb _ _ h) refl)

  module _ (few : length cycles / 2 ≤ 16000) where
    pub text_wrong : any_wrong (cycles_of cycles) ≡ true → IsWrittenText cycles out (Err OutsideField) out
    unfolding text_refusal
    text_wrong w = written_refused OutsideField (rw (cycles_count cycles, le-ltb _ _ few, w) refl)

    module _ (right : any_wrong (cycles_of cycles) ≡ false) {x y : List ℕ} {n k : ℕ} (measured : Put x 0 (cycles_text (cycles_of cycles)) y n k) where
      long : n ≡ length (cycles_text (cycles_of cycles))
      long = omega (arith, measured.place)

      pub text_short : length out < n → IsWrittenText cycles out (Err ShortOutput) out
      unfolding text_refusal
      text_short h =
          let g : length out < length (cycles_text (cycles_of cycles)) = omega (arith, long) in
          written_refused ShortOutput (rw (cycles_count cycles, le-ltb _ _ few, right, lt-ltb _ _ g) refl)

      pub text_given : n ≤ length out → {left : List ℕ} {r l : ℕ} → Put out 0 (cycles_text (cycles_of cycles)) left r l
          → IsWrittenText cycles out (Ok n) left
      unfolding text_refusal
      text_given h q =
          let g : length (cycles_text (cycles_of cycles)) ≤ length out = omega (arith, long) in
          written_given (rw (cycles_count cycles, le-ltb _ _ few, right, le-ltb _ _ g) refl) long (q.bytes ∙ set_in_front (cycles_text (cycles_of cycles)) out g)

-- ---- read_text

module _ (text out : List ℕ) where
  -- an answer by its number
  lines_by_lem : {left : List ℕ} {a : Result ℕ Unread} (n : ℕ) → read_refusal text out ≡ n → told_lines a ≡ told_by n (length (cycles_in text)) → eqb n 0 ≡ false → left ≡ out
      → IsReadText text out a left
  lines_by_lem n e f z g = record { tells = rw e f; leaves = rw (e, z) g }

  module _ {x y : List ℕ} {n at : ℕ} (seen : Fronted text x y n at) where
    pub read_bad : at < length text → IsReadText text out (Err (BadLine n)) out
    unfolding read_refusal
    read_bad h =
        let b : bad_text text ≡ true = lt-ltb (length (cycles_text (cycles_in text))) (length text) (omega (arith, seen.place)) in
        lines_by_lem 11 (rw b refl) (rw seen.count refl) refl refl

    module _ (whole : length text ≤ at) where
      good : bad_text text ≡ false
      good = le-ltb (length (cycles_text (cycles_in text))) (length text) (omega (arith, seen.place))

      pub read_many : 16000 < n → IsReadText text out (Err (Refused OutsideField)) out
      unfolding read_refusal
      read_many h =
          let m : 16000 < length (cycles_in text) = omega (arith, seen.count) in
          lines_by_lem 6 (rw (good, lt-ltb _ _ m) refl) refl refl refl

      module _ (few : n ≤ 16000) where
        few' : length (cycles_in text) ≤ 16000
        few' = omega (arith, seen.count)

        pub read_short : length out < 2 * n → IsReadText text out (Err (Refused ShortOutput)) out
        unfolding read_refusal
        read_short h =
            let g : length out < 2 * length (cycles_in text) = omega (arith, seen.count) in
            lines_by_lem 5 (rw (good, le-ltb _ _ few', lt-ltb _ _ g) refl) refl refl refl

        pub read_given : 2 * n ≤ length out → {left : List ℕ} {i j : ℕ} → Fronted text out left i j → IsReadText text out (Ok n) left
        unfolding read_refusal
        read_given h q =
            let g : 2 * length (cycles_in text) ≤ length out = omega (arith, seen.count) in
            let k : length (bytes_of (cycles_in text)) ≤ length out = rw (bytes_length (cycles_in text)) g in
            let e : read_refusal text out ≡ 0 = rw (good, le-ltb _ _ few', le-ltb _ _ g) refl in
            record { tells = rw (e, seen.count) refl; leaves = rw e (q.bytes ∙ set_in_front (bytes_of (cycles_in text)) out k) }

-- ---- write_job

-- so many bytes are `n` pictures
pub right_pictures : (total n : ℕ) → wrong_pictures total n ≡ false → total ≡ 1188 * n
unfolding wrong_pictures
right_pictures total n e = eqb-true total (1188 * n) (not-false _ e)

-- the code's test: no product of it can be too large
pub pictures_test : (total n : ℕ) → (not (eqb (total / 1188) n) || not (eqb (total % 1188) 0)) ≡ wrong_pictures total n
unfolding wrong_pictures
pictures_test total n = split (eqb total (1188 * n))
    (λ t. (
    let h = eqb-true total (1188 * n) t in
    let a : total / 1188 ≡ n = omega arith in
    let b : total % 1188 ≡ 0 = omega arith in
    rw (eq-eqb _ _ a, eq-eqb _ _ b, t) refl))
    (λ t. split (eqb (total / 1188) n)
    (λ a. split (eqb (total % 1188) 0)
    (λ b. absurd (eqb-false total (1188 * n) t (let c = eqb-true (total / 1188) n a in let d = eqb-true (total % 1188) 0 b in omega arith)))
    (λ b. rw (a, b, t) refl))
    (λ a. rw (a, t) refl))

pub header_length : (n p : ℕ) → length (header_bytes n p) ≡ 8
unfolding header_bytes word_bytes
header_length n p = refl

pub job_length : (set : CommandSet) (xs : List BusCycle) (p : ℕ) (pictures : List ℕ) → length (job_bytes set xs p pictures) ≡ 8 + 2 * length xs + length pictures
unfolding job_bytes
job_length set xs p pictures =
    let a = length-append (header_bytes (length xs) (count_field set p)) (bytes_of xs ++ pictures) in
    let b = length-append (bytes_of xs) pictures in
    let c = header_length (length xs) (count_field set p) in
    let d = bytes_length xs in
    omega arith

-- bytes copied behind others that stand in front of an output
grown : (done part out : List ℕ) (a k : ℕ) → length done ≡ a → put_mid a k (done ++ drop a out) part ≡ (done ++ part) ++ drop (a + k) out
grown done part out a k e =
    rw (take_at done (drop a out) a e, drop_at done (drop a out) a e, drop-drop k a out) (sym (append_assoc done part (drop (a + k) out)))

-- a header of 8 bytes, then j bytes, then k
abbrev pub copied : List ℕ → List ℕ → List ℕ → List ℕ → ℕ → ℕ → List ℕ
copied h x y out j k = put_mid (8 + j) (8 + j + k - (8 + j)) (put_mid 8 (8 + j - 8) (h ++ drop 8 out) x) y

parts_copied : (h x y out : List ℕ) {j : ℕ} → length h ≡ 8 → length x ≡ j → copied h x y out j (length y) ≡ over (h ++ (x ++ y)) out
parts_copied h x y out {j} e f =
    let m : 8 + j - 8 ≡ j = omega arith in
    let n : 8 + j + length y - (8 + j) ≡ length y = omega arith in
    let d : length (h ++ x) ≡ 8 + j = length-append h x ∙ rw (e, f) refl in
    let t : length (h ++ (x ++ y)) ≡ 8 + j + length y = omega (arith, length-append h (x ++ y), length-append x y) in
    rw (m, n, grown h x out 8 j e, grown (h ++ x) y out (8 + j) (length y) d, t, append_assoc h x y)

module _ (set : CommandSet) (cycles : List ℕ) (p : ℕ) (pictures out : List ℕ) where
  abbrev total : ℕ
  total = 8 + 2 * (length cycles / 2) + length pictures

  total_is : length (job_bytes set (cycles_of cycles) p pictures) ≡ total
  total_is = job_length set (cycles_of cycles) p pictures ∙ rw (cycles_count cycles) refl

  pub job_size : wrong_pictures (length pictures) p ≡ true → IsWrittenJob set cycles p pictures out (Err WrongSize) out
  unfolding job_refusal
  job_size w = written_refused WrongSize (rw w refl)

  module _ (right : wrong_pictures (length pictures) p ≡ false) where
    pub job_many : 16000 < length cycles / 2 → IsWrittenJob set cycles p pictures out (Err OutsideField) out
    unfolding job_refusal
    job_many h = written_refused OutsideField (rw (right, cycles_count cycles, lt-ltb _ _ h) refl)

    module _ (few : length cycles / 2 ≤ 16000) where
      pub job_pictures : most_pictures set < p → IsWrittenJob set cycles p pictures out (Err OutsideField) out
      unfolding job_refusal
      job_pictures h = written_refused OutsideField (rw (right, cycles_count cycles, le-ltb _ _ few, lt-ltb _ _ h) refl)

      module _ (two : p ≤ most_pictures set) where
        pub job_wrong : any_wrong (cycles_of cycles) ≡ true → IsWrittenJob set cycles p pictures out (Err OutsideField) out
        unfolding job_refusal
        job_wrong w = written_refused OutsideField (rw (right, cycles_count cycles, le-ltb _ _ few, le-ltb _ _ two, w) refl)

        module _ (formed : any_wrong (cycles_of cycles) ≡ false) where
          pub job_short : length out < total → IsWrittenJob set cycles p pictures out (Err ShortOutput) out
          unfolding job_refusal
          job_short h =
              let g : length out < length (job_bytes set (cycles_of cycles) p pictures) = rw total_is h in
              written_refused ShortOutput (rw (right, lt-ltb _ _ g, cycles_count cycles, le-ltb _ _ few, le-ltb _ _ two, formed) refl)

          pub job_given : {h x y : List ℕ} → total ≤ length out
              → h ≡ header_bytes (length cycles / 2) (count_field set p) → x ≡ take (2 * (length cycles / 2)) cycles → y ≡ pictures
              → IsWrittenJob set cycles p pictures out (Ok total) (copied h x y out (2 * (length cycles / 2)) (length pictures))
          unfolding job_refusal job_bytes
          job_given room e f g =
              let fits : length (job_bytes set (cycles_of cycles) p pictures) ≤ length out = rw total_is room in
              let q = parts_copied (header_bytes (length cycles / 2) (count_field set p)) (take (2 * (length cycles / 2)) cycles) pictures out
              (header_length _ _) (length-take-le (2 * (length cycles / 2)) cycles (omega arith)) in
              written_given
              (rw (right, le-ltb _ _ fits, cycles_count cycles, le-ltb _ _ few, le-ltb _ _ two, formed) refl)
              (sym total_is)
              (rw (e, f, g) (q ∙ rw (cycles_bytes cycles, cycles_count cycles) refl))
