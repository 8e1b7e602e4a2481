-- What comes of a text and so many pictures, in a command set.
-- Assumes nothing.
use Rattle.std.specs.Prelude.{ℕ, ◌*◌, ◌≤◌, ◌≡◌, false, cond, List, length, take, ltb, Result, Ok, Err}
use Rattle.paper.specs.declared.refusal.Refusal.TheVariants.{OutsideField}
use Rattle.instructions.specs.declared.added.CommandSet.{CommandSet}
use Rattle.bus.specs.Cycles.{cycles_of}
use Rattle.recorder.specs.Cycles.{any_wrong}
use Rattle.recorder.specs.Text.{cycles_in, bad_text}
use Rattle.recorder.specs.Job.{most_pictures, job_bytes}
use Rattle.recorder.specs.declared.text.Unread.{Unread}
use Rattle.recorder.specs.declared.text.Unread.TheVariants.{BadLine, Refused}

-- the job file of its cycles; or its first bad line; or that they are too many
unfoldable pub made_of : CommandSet → List ℕ → ℕ → List ℕ → Result ℕ Unread
made_of set text count pictures =
    cond (bad_text text) (Err (BadLine (length (cycles_in text))))
    (cond (ltb 16000 (length (cycles_in text))) (Err (Refused OutsideField))
    (Ok (length (job_bytes set (cycles_in text) count pictures))))

-- what make_job promises: a job stands in front of the room for it
pub record IsMade (set : CommandSet) (text : List ℕ) (count : ℕ) (pictures : List ℕ) (a : Result ℕ Unread) (left : List ℕ) : Type 0 where
  pub tells : a ≡ made_of set text count pictures
  pub leaves : (n : ℕ) → a ≡ Ok n → (n ≤ length left) × (take n left ≡ job_bytes set (cycles_in text) count pictures)

-- Internal: what the functions ask of each other.

-- cycles that a job can have
pub record GoodCycles (cycles : List ℕ) : Type 0 where
  pub few : length (cycles_of cycles) ≤ 16000
  pub right : any_wrong (cycles_of cycles) ≡ false

-- no more pictures of 1,188 bytes than the set has, and room for any job
pub record FullRoom (set : CommandSet) (count : ℕ) (pictures job : List ℕ) : Type 0 where
  pub most : count ≤ most_pictures set
  pub fit : length pictures ≡ 1188 * count
  pub room : 34384 ≤ length job
