-- The whole text of a job: each cycle's line, then `end`, then `update` if there is a wanted picture.
-- Assumes nothing.
use Rattle.std.specs.Prelude.{ℕ, zero, suc, ◌≡◌, Bool, cond, List, [], ◌++◌, length, drop, ltb, eqb, Result}
use Rattle.std.proofs.Math.Option.{Option, none, some}
use Rattle.paper.specs.Refusal.{short_output}
use Rattle.paper.specs.Told.{given, refused, told}
use Rattle.paper.specs.declared.refusal.Refusal.{Refusal}
use Rattle.paper.specs.Sheet.{sheet0713}
use Rattle.controller.specs.Cycle.{Outcome, answer}
use Rattle.controller.specs.State.{State, powered_up_in, step}
use Rattle.streams.specs.Length.{update_length}
use Rattle.jobs.specs.Header.{cycle_at, picture2, header_of}
use Rattle.jobs.specs.Memory.{start_memory}
use Rattle.jobs.specs.Text.{read_line, marked_line, refusal_line, bad_line, end_line, update_line}
use Rattle.jobs.specs.declared.header.Job.{Job}

-- a read has a line, a data read's with its mark; whatever else was done has none
abbrev pub byte_line : ℕ → Option ℕ → Option Bool → List ℕ
byte_line i (some b) (some fresh) = marked_line i b fresh
byte_line i (some b) none = read_line i b
byte_line i none fresh = []

-- the line of cycle i, by what it answered
unfoldable pub line_of : ℕ → Outcome → List ℕ
line_of i o = cond (eqb o.number 0) (byte_line i o.byte o.fresh) (refusal_line i o.number)

-- what cycle i of a file answers
abbrev pub answer_at : List ℕ → ℕ → State → Outcome
answer_at file i s = answer sheet0713 s.registers s.memory (cycle_at file i).0 (cycle_at file i).1

-- the last lines
unfoldable pub ending : List ℕ → Job → State → List ℕ
ending file j s =
    end_line s.registers ++ cond (ltb j.pictures 2) [] (update_line (update_length 132 s.memory (picture2 file j.cycles)))

-- the text from cycle i on, with n cycles left
unfoldable pub text_from : List ℕ → Job → State → ℕ → ℕ → List ℕ
text_from file j s i zero = ending file j s
text_from file j s i (suc n) = line_of i (answer_at file i s) ++ text_from file j (step sheet0713 s (cycle_at file i)) (suc i) n

-- the chip at power-up, in the job's command set
abbrev pub power_up : List ℕ → Job → State
power_up file j = powered_up_in sheet0713 j.set (start_memory file j)

-- the text of a good job, and of any file: a refused one gives the one line `bad` and the number
unfoldable pub text_by : List ℕ → ℕ → Option Job → List ℕ
text_by file n (some j) = text_from file j (power_up file j) 0 j.cycles
text_by file n none = bad_line n

unfoldable pub text_of : List ℕ → List ℕ
text_of file = text_by file (header_of file).number (header_of file).value

-- no text is longer: 16,000 lines of at most 13 bytes, and two more
abbrev pub longest : ℕ
longest = 210000

-- what play promises: the text's length, and the text in front of the output; or 5, and the output as it was
pub record IsPlayed (file out : List ℕ) (a : Result ℕ Refusal) (left : List ℕ) : Type 0 where
  pub tells : told a ≡ cond (ltb (length out) (length (text_of file))) (refused short_output) (given (length (text_of file)))
  pub leaves : left ≡ cond (ltb (length out) (length (text_of file))) out (text_of file ++ drop (length (text_of file)) out)
