-- What comes of a text, by what reading it answers: its first bad line, too many cycles, or the job of its cycles.
-- Assumes nothing.
use Prim.Native.Nat.{ℕ, ◌+◌, ◌*◌, ◌≤◌}
use mathlib.Core.Path.{◌≡◌, refl, sym, ap, ◌∙◌}
use mathlib.Core.Logic.{⊎_elim}
use mathlib.Core.List.{List}
use native.Mathlib.Omega.{arith}
use borrow.Author.Tests.{lt-ltb, le-ltb}
use lib.ListN.{length, take, drop, length-append}
use lib.Seq.{take_at}
use Rattle.std.specs.Prelude.{Result, Ok, Err}
use Rattle.paper.specs.declared.refusal.Refusal.{Refusal}
use Rattle.paper.specs.declared.refusal.Refusal.TheVariants.{OutsideField, ShortOutput}
use Rattle.instructions.specs.declared.added.CommandSet.{CommandSet}
use Rattle.bus.specs.Cycles.{cycles_of}
use Rattle.recorder.specs.Text.{cycles_in, IsReadText}
use Rattle.recorder.specs.Job.{job_bytes, IsWrittenJob}
use Rattle.recorder.specs.declared.text.Unread.{Unread}
use Rattle.recorder.specs.declared.text.Unread.TheVariants.{BadLine, Refused}
use Rattle.recorder.proofs.CycleBytes.{good_right}
use Rattle.recorder.proofs.Meaning.{read_again, good_exactly, first_one}
use Rattle.recorder.proofs.Promised.{written_number, written_all, wrong_no}
use Rattle.recorder.proofs.PromisedLines.{lines_11, lines_6, lines_5, lines_only, lines_0, lines_read}
use Rattle.recorder.proofs.PromisedJob.{job_always}
use Rattle.record.specs.Made.{made_of, GoodCycles, FullRoom, IsMade}

-- ---- a job of good cycles is never refused

module _ (set : CommandSet) (cycles : List ℕ) (count : ℕ) (pictures out : List ℕ) {a : Result ℕ Refusal} {left : List ℕ} (f : IsWrittenJob set cycles count pictures out a left)
    (g : GoodCycles cycles) (h : FullRoom set count pictures out) where
  always : a ≡ Ok (length (job_bytes set (cycles_of cycles) count pictures))
  always = (job_always set cycles count pictures out a left f h.fit (g.few, (h.most, (wrong_no (cycles_of cycles)).0 g.right)) h.room).0

  pub job_never : {r : Refusal} → a ≡ Err r → ⊥
  job_never {r} e =
      let same : Err r ≡ Ok (length (job_bytes set (cycles_of cycles) count pictures)) = sym e ∙ always in
      let z : ◌≡◌ {A = ℕ} 0 1 = cc in
      omega arith

-- ---- by what reading answers

module _ (set : CommandSet) (text : List ℕ) (count : ℕ) (pictures cycles left : List ℕ) where
  made_bad : {n : ℕ} (job : List ℕ) → IsReadText text cycles (Err (BadLine n)) left → IsMade set text count pictures (Err (BadLine n)) job
  unfolding made_of
  made_bad {n} job f =
      let o = first_one text n ((lines_11 text cycles (Err (BadLine n)) left f n).0 refl) in
      record {
        tells = rw (o.0, o.1) refl;
        leaves = λ k e. absurd (let z : ◌≡◌ {A = ℕ} 0 1 = cc in omega arith);
      }

  made_many : (job : List ℕ) → IsReadText text cycles (Err (Refused OutsideField)) left → IsMade set text count pictures (Err (Refused OutsideField)) job
  unfolding made_of
  made_many job f =
      let m = (lines_6 text cycles (Err (Refused OutsideField)) left f).0 refl in
      record {
        tells = rw ((good_exactly text).1 m.0, lt-ltb 16000 (length (cycles_in text)) m.1) refl;
        leaves = λ k e. absurd (let z : ◌≡◌ {A = ℕ} 0 1 = cc in omega arith);
      }

  -- room for 16,000 cycles is never short
  pub made_unread : (u : Unread) (job : List ℕ) → 32000 ≤ length cycles → IsReadText text cycles (Err u) left → IsMade set text count pictures (Err u) job
  made_unread (BadLine n) job room f = made_bad job f
  made_unread (Refused r) job room f = ⊎_elim
      (λ e. rw e (made_many job (rw e at f)))
      (λ e. (
      let s = (lines_5 text cycles (Err (Refused ShortOutput)) left (rw e at f)).0 refl in
      absurd (omega (arith, s.1.0, s.1.1))))
      (lines_only text cycles r left f)

-- ---- cycles that were read

module _ {text cycles left : List ℕ} {n : ℕ} (f : IsReadText text cycles (Ok n) left) where
  -- they lie within the room
  pub cycles_fit : 2 * n ≤ length cycles
  cycles_fit = let o = lines_0 text cycles n left f in omega (arith, o.0, o.1.1.1)

  pub cycles_right : (m : ℕ) → m ≡ 2 * n → GoodCycles (take m left)
  cycles_right m h =
      let o = lines_0 text cycles n left f in
      let e = lines_read text cycles n left f in
      rw h (record {
        few = rw e o.1.1.0;
        right = rw e (good_right (cycles_in text) (read_again text ((good_exactly text).1 o.1.0)).0);
      })

  pub made_job : (set : CommandSet) (count : ℕ) (pictures : List ℕ) (m : ℕ) → m ≡ 2 * n → {out job : List ℕ} {k : ℕ} → IsWrittenJob set (take m left) count pictures out (Ok k) job
      → IsMade set text count pictures (Ok k) job
  unfolding made_of
  made_job set count pictures m h {out} {job} {k} w =
      let o = lines_0 text cycles n left f in
      let file = job_bytes set (cycles_in text) count pictures in
      let p = rw (h, lines_read text cycles n left f) at (written_all w (sym (written_number w))) in
      let same : Ok k ≡ Ok (length file) = p.0 in
      let long : k ≡ length file = cc in
      let all : length job ≡ length file + length (drop (length file) out) = ap length p.1 ∙ length-append file (drop (length file) out) in
      record {
        tells = rw ((good_exactly text).1 o.1.0, le-ltb 16000 (length (cycles_in text)) o.1.1.0, long) refl;
        leaves = λ i e. (
            let one : i ≡ length file = (let j : Ok k ≡ Ok i = e in let q : k ≡ i = cc in sym q ∙ long) in
            (omega arith, ap (take i) p.1 ∙ take_at file _ i (sym one)));
      }
