-- Order 13's figures hold: all are computed from the definitions that the promises cite.
-- Assumes nothing.
use mathlib.Core.Path.{refl}
use Rattle.instructions.specs.Write.{field_of}
use Rattle.instructions.specs.Read.{class_of, read_by, read_first}
use Rattle.instructions.specs.Added.{added_first}
use Rattle.registers.specs.Beside.{outside_beside}
use Rattle.registers.specs.Registers.{outside}
use Rattle.registers.specs.Switch.{switched}
use Rattle.controller.specs.Added.{com0_set, duty_set, lines_of}
use Rattle.controller.specs.Memory.{cell_of, is_cell, stored, advanced}
use Rattle.controller.specs.Cycle.{written, carried, kept, refusal, answer, memory_after}
use Rattle.bus.specs.Cycles.{cycles_of}
use Rattle.jobs.specs.Header.{word_at, wrong_count, wrong_sizes, wrong_cycles, header_of}
use Rattle.jobs.specs.Memory.{start_memory}
use Rattle.jobs.specs.Text.{digit, decimal_up_to, decimal, field, end_line}
use Rattle.jobs.specs.Play.{line_of, ending, text_from, text_by, text_of}
use Rattle.recorder.specs.Cycles.{bytes_of}
use Rattle.recorder.specs.Job.{word_bytes, header_bytes, job_bytes}
use Rattle.figures.specs.Worked.{ascii}
use Rattle.figures.specs.Ks0759.{Ks0759}

pub ks0759 : Ks0759
unfolding field_of class_of read_by read_first added_first outside_beside outside switched com0_set duty_set lines_of cell_of is_cell stored advanced written carried kept refusal answer memory_after cycles_of word_at wrong_count wrong_sizes wrong_cycles header_of start_memory digit decimal_up_to decimal field end_line line_of ending text_from text_by text_of bytes_of word_bytes header_bytes job_bytes ascii
ks0759 = record {
  start_new = refl;
  start_old = refl;
  com0_79 = refl;
  com0_cf = refl;
  com0_80 = refl;
  com0_ff = refl;
  duty_17 = refl;
  duty_80 = refl;
  duty_16 = refl;
  duty_82 = refl;
  inversion_33 = refl;
  inversion_3 = refl;
  inversion_0 = refl;
  inversion_e4 = refl;
  frame_again = refl;
  write_duty = refl;
  write_com0 = refl;
  write_inversion = refl;
  again_4e = refl;
  page_new = refl;
  nop_new = refl;
  contrast_new = refl;
  below_new = refl;
  above_new = refl;
  write_new = refl;
  line_old = refl;
  e4_old = refl;
  pin_new = refl;
  com0_out = refl;
  duty_below = refl;
  duty_above = refl;
  one_line = refl;
  two_lines = refl;
  lines_34 = refl;
  the_most = refl;
  contrast_out = refl;
  duty_out = refl;
  switch_old = refl;
  switch_same = refl;
  switch_out = refl;
  switch_new = refl;
  played = refl;
  played_e4 = refl;
  job_written = refl;
  field_0 = refl;
  field_256 = refl;
  field_3 = refl;
  field_255 = refl;
  field_258 = refl;
  field_512 = refl;
}
