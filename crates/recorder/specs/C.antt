-- What the calls promise in C: the number of a refusal is answered, 0 for none, and what is given stands in the out-parameters.
-- Assumes nothing.
use Rattle.std.specs.Prelude.{ℕ, ◌≡◌, cond, List, ltb, length, Result}
use Rattle.paper.specs.Refusal.{wrong_size, outside_field}
use Rattle.paper.specs.Told.{refused, told}
use Rattle.paper.specs.declared.refusal.Refusal.{Refusal}
use Rattle.paper.specs.Answers.{left_by, same, Through, If}
use Rattle.state.specs.Packed.{set_byte, set_of}
use Rattle.jobs.specs.Header.{IsHeader}
use Rattle.jobs.specs.Play.{IsPlayed}
use Rattle.jobs.specs.declared.header.Job.{Job}
use Rattle.recorder.specs.Text.{told_lines, IsWrittenText, IsReadText}
use Rattle.recorder.specs.Job.{wrong_pictures, IsWrittenJob}
use Rattle.recorder.specs.declared.text.Unread.{Unread}

-- a set that is neither 0 nor 1 is refused with 6, but with 1 where the pictures are not `count`
abbrev pub set_refusal : ℕ → ℕ → ℕ
set_refusal total count = cond (wrong_pictures total count) wrong_size outside_field

-- the writer's answer for the old set, 0, or the new one, 1
abbrev pub JobOn : ℕ → List ℕ → ℕ → List ℕ → List ℕ → Result ℕ Refusal → List ℕ → Type 0
JobOn set cycles count pictures out a out' =
    If (ltb 1 set) ((told a ≡ refused (set_refusal (length pictures) count)) × (out' ≡ out)) (IsWrittenJob (set_of set) cycles count pictures out a out')

-- the file in the output, and its length
abbrev pub JobOut : ℕ → List ℕ → ℕ → List ℕ → List ℕ → ℕ → List ℕ → ℕ → ℕ → Type 0
JobOut set cycles count pictures out n out' n' r = Through (λ a. JobOn set cycles count pictures out a out') told same n n' r

-- the text in the output, and its length
abbrev pub TextOut : List ℕ → List ℕ → ℕ → List ℕ → ℕ → ℕ → Type 0
TextOut cycles out length out' length' r = Through (λ a. IsWrittenText cycles out a out') told same length length' r

-- how an answer of read_text is told: how many cycles, or with 11 the first bad line's number; what is not told stays
pub record LinesTold (a : Result ℕ Unread) (count line count' line' r : ℕ) : Type 0 where
  pub number : r ≡ (told_lines a).number
  pub count_left : count' ≡ left_by same count (told_lines a).cycles
  pub line_left : line' ≡ left_by same line (told_lines a).line

-- the cycles in the output, and how many
pub record LinesOut (text out : List ℕ) (count line : ℕ) (out' : List ℕ) (count' line' r : ℕ) : Type 0 where
  pub answer : Result ℕ Unread
  pub promised : IsReadText text out answer out'
  pub told : LinesTold answer count line count' line' r

-- how many cycles and how many pictures a job has, and its command set
abbrev pub job_parts : Job → ℕ × ℕ × ℕ
job_parts j = (j.cycles, j.pictures, set_byte j.set)

abbrev pub HeaderOut : List ℕ → ℕ × ℕ × ℕ → ℕ × ℕ × ℕ → ℕ → Type 0
HeaderOut file parts parts' r = Through (IsHeader file) told job_parts parts parts' r

-- the player's text in the output, and its length
abbrev pub PlayOut : List ℕ → List ℕ → ℕ → List ℕ → ℕ → ℕ → Type 0
PlayOut file out length out' length' r = Through (λ a. IsPlayed file out a out') told same length length' r
