-- Order 11's figures hold: all are computed from the definitions that the recorder's promises cite.
-- Assumes nothing.
use mathlib.Core.Path.{refl}
use Rattle.bus.specs.Cycles.{cycles_of}
use Rattle.jobs.specs.Text.{digit, hex}
use Rattle.recorder.specs.Cycles.{good_cycle, bytes_of}
use Rattle.recorder.specs.Line.{letter_of, cycle_text, kind_by, digit_by, cycle_in, starts_with, line_in}
use Rattle.recorder.specs.Text.{cycles_text, front_cycles, read_refusal}
use Rattle.recorder.specs.Job.{word_bytes, header_bytes, job_bytes}
use Rattle.figures.specs.Worked.{ascii}
use Rattle.figures.specs.Recorded.{Recorded}

pub recorded : Recorded
unfolding cycles_of digit hex good_cycle bytes_of letter_of cycle_text kind_by digit_by cycle_in starts_with line_in cycles_text front_cycles read_refusal word_bytes header_bytes job_bytes ascii
recorded = record {
  text = refl;
  text_size = refl;
  letters = refl;
  file = refl;
  header = refl;
  cycles_again = refl;
  letters_again = refl;
  empty = refl;
  six = refl;
  seven = refl;
  no_newline = refl;
  empty_line = refl;
  upper_case = refl;
  upper_letter = refl;
  value_of_s = refl;
  no_value = refl;
  two_blanks = refl;
  carriage_return = refl;
  no_digit = refl;
  bad_first = refl;
}
