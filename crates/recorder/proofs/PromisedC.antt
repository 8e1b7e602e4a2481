-- What the promises in C fix: two results that one admits are equal, out-parameters and lent bytes included; the number that is answered;
-- and where it is not 0, the output and every out-parameter is what it was, but for the bad line's number with 11.
-- Assumes nothing.
use Prim.Native.Nat.{ℕ}
use mathlib.Core.Path.{◌≡◌, refl, sym, ap, ◌∙◌}
use mathlib.Core.Logic.{◌≢◌}
use mathlib.Core.Bool.{cond}
use mathlib.Core.Option.{none}
use mathlib.Core.List.{List}
use lib.Dec.{ltb}
use lib.ListN.{length}
use Rattle.paper.specs.Refusal.{short_output, no_text}
use Rattle.std.specs.Prelude.{Result, Ok, Err}
use Rattle.paper.specs.Told.{told}
use Rattle.paper.specs.declared.refusal.Refusal.{Refusal}
use Rattle.paper.specs.Answers.{left_by, same}
use Rattle.paper.proofs.Answering.{answers_one, if_split, if_both, test_number, refusal_leaves}
use Rattle.paper.proofs.Refusing.{told_silent}
use Rattle.paper.proofs.Telling.{told_one}
use Rattle.state.specs.Packed.{set_of}
use Rattle.bus.specs.Cycles.{cycles_of}
use Rattle.jobs.specs.Header.{header_of}
use Rattle.jobs.specs.Play.{text_of, IsPlayed}
use Rattle.jobs.proofs.Promised.{header_one, played_one, played_refused_leaves}
use Rattle.recorder.specs.Written.{Written}
use Rattle.recorder.specs.Text.{text_refusal, read_refusal, told_lines}
use Rattle.recorder.specs.Job.{job_refusal}
use Rattle.recorder.specs.C.{set_refusal, JobOut, TextOut, LinesOut, HeaderOut, PlayOut}
use Rattle.recorder.specs.declared.text.Unread.{Unread}
use Rattle.recorder.specs.declared.text.Unread.TheVariants.{BadLine, Refused}
use Rattle.recorder.proofs.Promised.{text_one, job_one, lines_one, written_number, written_refused_leaves}
use Rattle.recorder.proofs.PromisedLines.{lines_refused_leaves}

-- a writer's output is left where its number is not 0
writer_leaves : {number : ℕ} {bytes out left : List ℕ} (a : Result ℕ Refusal) → Written number bytes out a left → (told a).number ≢ 0 → left ≡ out
writer_leaves (Ok n) f h = absurd (h refl)
writer_leaves (Err r) f h = (written_refused_leaves f).1

-- ---- write_job

module _ (set : ℕ) (cycles : List ℕ) (p : ℕ) (pictures out : List ℕ) (n : ℕ) where
  pub job_out_one : {o o' : List ℕ} {a b r r' : ℕ} → JobOut set cycles p pictures out n o a r → JobOut set cycles p pictures out n o' b r'
      → (o ≡ o') × (a ≡ b) × (r ≡ r')
  job_out_one f g =
      let p' = if_both (ltb 1 set) f.promised g.promised (λ u v. (told_one _ _ (u.0 ∙ sym v.0), u.1 ∙ sym v.1)) (λ u v. job_one (set_of set) cycles p pictures u v) in
      let q = answers_one (ap told p'.0) f.answers g.answers in
      (p'.1, q.0, q.1)

  module _ (o : List ℕ) {a r : ℕ} (f : JobOut set cycles p pictures out n o a r) where
    pub job_out_number : r ≡ cond (ltb 1 set) (set_refusal (length pictures) p) (job_refusal (set_of set) (cycles_of cycles) p pictures out)
    job_out_number = f.answers.number ∙ if_split (ltb 1 set) f.promised
        (λ t u. ap (λ x. x.number) u.0 ∙ rw t refl)
        (λ t u. written_number u ∙ rw t refl)

    pub job_out_leaves : r ≢ 0 → (o ≡ out) × (a ≡ n)
    job_out_leaves h = (
      if_split (ltb 1 set) f.promised (λ t u. u.1) (λ t u. writer_leaves f.answer u (λ z. h (f.answers.number ∙ z))),
      refusal_leaves told_silent f h,
    )

-- ---- write_text

module _ (cycles out : List ℕ) (n : ℕ) where
  pub text_out_one : {o o' : List ℕ} {a b r r' : ℕ} → TextOut cycles out n o a r → TextOut cycles out n o' b r' → (o ≡ o') × (a ≡ b) × (r ≡ r')
  text_out_one f g =
      let p = text_one cycles f.promised g.promised in
      let q = answers_one (ap told p.0) f.answers g.answers in
      (p.1, q.0, q.1)

  module _ {o : List ℕ} {a r : ℕ} (f : TextOut cycles out n o a r) where
    pub text_out_number : r ≡ text_refusal (cycles_of cycles) out
    text_out_number = f.answers.number ∙ written_number f.promised

    pub text_out_leaves : r ≢ 0 → (o ≡ out) × (a ≡ n)
    text_out_leaves h = (writer_leaves f.answer f.promised (λ z. h (f.answers.number ∙ z)), refusal_leaves told_silent f h)

-- ---- read_text

-- only 0 comes with a count, and only 11 with a line
count_told : (a : Result ℕ Unread) → (told_lines a).number ≢ 0 → (told_lines a).cycles ≡ none
count_told (Ok n) h = absurd (h refl)
count_told (Err (BadLine n)) h = refl
count_told (Err (Refused r)) h = refl

line_told : (a : Result ℕ Unread) → (told_lines a).number ≢ no_text → (told_lines a).line ≡ none
line_told (Ok n) h = refl
line_told (Err (BadLine n)) h = absurd (h refl)
line_told (Err (Refused r)) h = refl

module _ (text out : List ℕ) (n l : ℕ) where
  pub lines_out_one : {o o' : List ℕ} {a a' b b' r r' : ℕ} → LinesOut text out n l o a b r → LinesOut text out n l o' a' b' r'
      → (o ≡ o') × (a ≡ a') × (b ≡ b') × (r ≡ r')
  lines_out_one f g =
      let p = lines_one f.promised g.promised in (
        p.1,
        f.told.count_left ∙ ap (λ x. left_by same n (told_lines x).cycles) p.0 ∙ sym g.told.count_left,
        f.told.line_left ∙ ap (λ x. left_by same l (told_lines x).line) p.0 ∙ sym g.told.line_left,
        f.told.number ∙ ap (λ x. (told_lines x).number) p.0 ∙ sym g.told.number,
      )

  module _ {o : List ℕ} {a b r : ℕ} (f : LinesOut text out n l o a b r) where
    pub lines_out_number : r ≡ read_refusal text out
    lines_out_number = f.told.number ∙ ap (λ t. t.number) f.promised.tells

    pub lines_out_leaves : r ≢ 0 → (o ≡ out) × (a ≡ n)
    lines_out_leaves h =
        let k : (told_lines f.answer).number ≢ 0 = λ z. h (f.told.number ∙ z) in
        (lines_refused_leaves text out f.answer o f.promised k, f.told.count_left ∙ ap (left_by same n) (count_told f.answer k))

    pub line_out_leaves : r ≢ no_text → b ≡ l
    line_out_leaves h = f.told.line_left ∙ ap (left_by same l) (line_told f.answer (λ z. h (f.told.number ∙ z)))

-- ---- the reader of job files, and the player

module _ (file : List ℕ) (parts : ℕ × ℕ × ℕ) where
  pub header_out_one : {a b : ℕ × ℕ × ℕ} {r r' : ℕ} → HeaderOut file parts a r → HeaderOut file parts b r' → (a ≡ b) × (r ≡ r')
  header_out_one f g = answers_one (ap told (header_one f.promised g.promised)) f.answers g.answers

  module _ {a : ℕ × ℕ × ℕ} {r : ℕ} (f : HeaderOut file parts a r) where
    pub header_out_number : r ≡ (header_of file).number
    header_out_number = f.answers.number ∙ ap (λ t. t.number) f.promised.tells

    pub header_out_leaves : r ≢ 0 → a ≡ parts
    header_out_leaves h = refusal_leaves told_silent f h

module _ (file out : List ℕ) (n : ℕ) where
  pub play_out_one : {o o' : List ℕ} {a b r r' : ℕ} → PlayOut file out n o a r → PlayOut file out n o' b r' → (o ≡ o') × (a ≡ b) × (r ≡ r')
  play_out_one f g =
      let p = played_one f.promised g.promised in
      let q = answers_one (ap told p.0) f.answers g.answers in
      (p.1, q.0, q.1)

  play_leaves : {left : List ℕ} (a : Result ℕ Refusal) → IsPlayed file out a left → (told a).number ≢ 0 → left ≡ out
  play_leaves (Ok k) f h = absurd (h refl)
  play_leaves (Err r) f h = (played_refused_leaves file out r _ f).1

  module _ {o : List ℕ} {a r : ℕ} (f : PlayOut file out n o a r) where
    pub play_out_number : r ≡ cond (ltb (length out) (length (text_of file))) short_output 0
    play_out_number = f.answers.number ∙ ap (λ t. t.number) f.promised.tells ∙ test_number (ltb (length out) (length (text_of file))) short_output (length (text_of file))

    pub play_out_leaves : r ≢ 0 → (o ≡ out) × (a ≡ n)
    play_out_leaves h = (play_leaves f.answer f.promised (λ z. h (f.answers.number ∙ z)), refusal_leaves told_silent f h)
