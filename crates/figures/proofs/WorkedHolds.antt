-- Document 01's worked job gives its whole output: both are computed from the definitions that the player's promise cites.
-- Assumes nothing.
use mathlib.Core.Path.{refl}
use Rattle.instructions.specs.Read.{class_of, room_in, read_by, read_first}
use Rattle.registers.specs.Beside.{outside_beside}
use Rattle.registers.specs.Registers.{outside}
use Rattle.controller.specs.Memory.{cell_of, is_cell, stored, loaded, advanced}
use Rattle.controller.specs.Cycle.{written, status, carried, kept, refusal, answer, memory_after}
use Rattle.jobs.specs.Header.{word_at, wrong_count, wrong_sizes, wrong_cycles, header_of}
use Rattle.jobs.specs.Memory.{start_memory}
use Rattle.jobs.specs.Text.{digit, hex, decimal_up_to, decimal, field, marked_line, refusal_line, end_line}
use Rattle.jobs.specs.Play.{line_of, ending, text_from, text_by, text_of}
use Rattle.figures.specs.Worked.{ascii, Worked}

pub worked : Worked
unfolding class_of room_in read_by read_first outside_beside outside cell_of is_cell stored loaded advanced written status carried kept refusal answer memory_after word_at wrong_count wrong_sizes wrong_cycles header_of start_memory digit hex decimal_up_to decimal field marked_line refusal_line end_line line_of ending text_from text_by text_of ascii
worked = record { size = refl; output = refl }
