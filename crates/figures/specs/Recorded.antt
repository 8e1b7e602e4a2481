-- Order 11's figures: document 01's worked job as a text and as a file, all six letters, a header, and texts that are good and bad, each at
-- its line. `proofs/RecordedHolds.antt` proves them by computing.
-- Assumes nothing.
use Rattle.std.specs.Prelude.{ℕ, ◌≡◌, List, [], ◌∷◌, length, drop, replicate}
use Prim.Native.String.{String}
use Rattle.std.proofs.Math.Option.{none, some}
use Rattle.instructions.specs.declared.added.CommandSet.TheVariants.{Old}
use Rattle.bus.specs.Cycles.{cycles_of}
use Rattle.recorder.specs.Text.{cycles_text, cycles_in, read_refusal, ToldLines, told_by}
use Rattle.recorder.specs.Job.{header_bytes, job_bytes}
use Rattle.figures.specs.Worked.{ascii, job}

-- the worked job's nine cycles
abbrev pub cycles : List ℕ
cycles = drop 8 job

-- what is told of a text that is read into twelve bytes
abbrev pub read : String → ToldLines
read text = told_by (read_refusal (ascii text) (replicate 12 0)) (length (cycles_in (ascii text)))

-- so many cycles; and 11, with the first bad line's number
abbrev pub good : ℕ → ToldLines
good n = record { number = 0; cycles = some n; line = none }

abbrev pub bad_at : ℕ → ToldLines
bad_at n = record { number = 11; cycles = none; line = some n }

abbrev pub refused_with : ℕ → ToldLines
refused_with n = record { number = n; cycles = none; line = none }

pub record Recorded : Type 0 where
  -- written
  pub text : cycles_text (cycles_of cycles) ≡ ascii "i b2\ni 10\ni 05\nd 7e\nd 81\ni 05\nr\nr\ni 30\n"
  pub text_size : length (cycles_text (cycles_of cycles)) ≡ 39
  pub letters : cycles_text ((0, 0x0a) ∷ (1, 0xff) ∷ (2, 0) ∷ (3, 0) ∷ (4, 0) ∷ (5, 0) ∷ []) ≡ ascii "i 0a\nd ff\ns\nr\nl\nh\n"
  pub file : job_bytes Old (cycles_of cycles) 0 [] ≡ job
  pub header : header_bytes 300 2 ≡ 0x2c ∷ 0x01 ∷ 0x08 ∷ 0x00 ∷ 0x02 ∷ 0x00 ∷ 0x60 ∷ 0x02 ∷ []
  -- read
  pub cycles_again : cycles_in (ascii "i b2\ni 10\ni 05\nd 7e\nd 81\ni 05\nr\nr\ni 30\n") ≡ cycles_of cycles
  pub letters_again : cycles_in (ascii "i 0a\nd ff\ns\nr\nl\nh\n") ≡ (0, 0x0a) ∷ (1, 0xff) ∷ (2, 0) ∷ (3, 0) ∷ (4, 0) ∷ (5, 0) ∷ []
  pub empty : read "" ≡ good 0
  pub six : read "i 0a\nd ff\ns\nr\nl\nh\n" ≡ good 6
  pub seven : read "s\ns\ns\ns\ns\ns\ns\n" ≡ refused_with 5
  pub no_newline : read "i b2" ≡ bad_at 0
  pub empty_line : read "s\n\n" ≡ bad_at 1
  pub upper_case : read "i B2\n" ≡ bad_at 0
  pub upper_letter : read "S\n" ≡ bad_at 0
  pub value_of_s : read "s 00\n" ≡ bad_at 0
  pub no_value : read "d\n" ≡ bad_at 0
  pub two_blanks : read "i  b2\n" ≡ bad_at 0
  pub carriage_return : read "s\ns\r\n" ≡ bad_at 1
  pub no_digit : read "i g0\n" ≡ bad_at 0
  pub bad_first : read "x\ns\ns\ns\ns\ns\ns\ns\n" ≡ bad_at 0
