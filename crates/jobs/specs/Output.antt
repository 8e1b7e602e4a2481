-- Internal: what the functions that put text into an output promise each other. No public promise cites it.
-- Assumes nothing.
use Rattle.std.specs.Prelude.{ℕ, ◌+◌, ◌*◌, ◌≤◌, ◌≡◌, cond, List, [], ◌++◌, length, eqb}
use Rattle.std.proofs.lemmas.List.Edits.{sets}
use Rattle.registers.specs.declared.Registers.{Registers}
use Rattle.jobs.specs.Text.{field, flag, modify_flag, line_end, read_line, marked_line, refusal_line}
use Rattle.jobs.specs.declared.header.Job.{Job}

-- How far a text reaches as its parts count themselves: a number counts as 21 bytes, a space and the 20 digits that 64 bits can have.
-- A text is shorter (`longest`); these only keep every place in the output a number that can be reckoned with.

-- the line of a cycle: a letter, two numbers, the end of the line
abbrev pub line_most : ℕ
line_most = 44

-- the lines of all cycles of a job
abbrev pub lines_most : ℕ
lines_most = 16000 * line_most

-- the last lines: `end` and thirteen numbers, `update` and one
abbrev pub ending_most : ℕ
ending_most = 305

-- all of it
abbrev pub text_most : ℕ
text_most = lines_most + ending_most

-- `before` with `text` from `at` on, as far as it reaches, is `after`; `next` is the place past the text, at most `most` further
pub record Put (before : List ℕ) (at : ℕ) (text after : List ℕ) (next most : ℕ) : Type 0 where
  pub bytes : after ≡ sets before at text
  pub place : next ≡ at + length text
  pub near : next ≤ at + most

-- of the text `whole`, which is to stand at the start of `first`, `rest` is still to be put into `now`, at `at`
pub record Remains (whole first now : List ℕ) (at : ℕ) (rest : List ℕ) : Type 0 where
  pub bytes : sets first 0 whole ≡ sets now at rest
  pub count : length whole ≡ at + length rest

-- a job that a file holds whole
pub record Holds (file : List ℕ) (j : Job) : Type 0 where
  pub few : j.cycles ≤ 16000
  pub two : j.pictures ≤ 2
  pub whole : length file ≡ 8 + 2 * j.cycles + 1188 * j.pictures

-- the line of cycle i by its kind and its answer taken apart: a refusal's, a data read's, a status read's, or none
abbrev pub line_by : ℕ → ℕ → ℕ → ℕ → ℕ → ℕ → List ℕ
line_by i kind number read byte fresh =
    cond (eqb number 0) (cond (eqb kind 3) (marked_line i byte (eqb fresh 1)) (cond (eqb read 0) [] (read_line i byte))) (refusal_line i number)

-- the end line from `on` on, and from SHL on
abbrev pub last_fields : Registers → List ℕ
last_fields r = field (flag r.on) ++ (field (modify_flag r.modify_read) ++ (field r.contrast ++ line_end r.beside))

abbrev pub flag_fields : Registers → List ℕ
flag_fields r = field (flag r.shl) ++ (field (flag r.adc) ++ (field (flag r.reverse) ++ (field (flag r.entire) ++ last_fields r)))
