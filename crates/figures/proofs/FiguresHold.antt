-- Document 01's figures marked P, those of orders 5 and 2 and the KS0717's hold: each is computed from the definitions that the promises
-- cite. A stream of no bytes is shown by its length, which is quicker to compute.
-- Assumes nothing.
use Prim.Native.Nat.{ℕ}
use mathlib.Core.Path.{◌≡◌, ◌∙◌, refl}
use mathlib.Core.List.{List, []}
use Rattle.instructions.specs.Read.{class_of, room_in, read_by, read_first}
use Rattle.registers.specs.Beside.{outside_beside}
use Rattle.registers.specs.Registers.{outside}
use Rattle.controller.specs.Memory.{cell_of, is_cell, stored, loaded, advanced}
use Rattle.controller.specs.Cycle.{written, status, carried, kept, refusal, answer, memory_after}
use Rattle.glass.specs.Dot.{line_of}
use Rattle.glass.specs.Voltage.{numerator, numerator0717}
use Rattle.streams.specs.Picture.{shown, differs}
use Rattle.streams.specs.Stretch.{on_it, address, emit_by}
use Rattle.streams.specs.Update.{joins, join, join_if, runs, wanted_bytes, stretch_of, page_work, work_from, update, update_stream}
use Rattle.streams.specs.Length.{differing, gaps, gap_cost, page_length, length_from, update_length}
use Rattle.streams.proofs.Length.{update_length_lem, redraw_length}
use Rattle.streams.proofs.Grouping.{no_length}
use Rattle.figures.specs.Figures.{zeros, icons, zeros0717, Figures0717, Figures}

-- ---- the two figures of 0 bytes

no_update : (recorded wanted : List ℕ) → update_length 132 recorded wanted ≡ 0 → update_stream 132 recorded wanted ≡ []
no_update recorded wanted e = no_length (update_stream 132 recorded wanted) (update_length_lem 132 recorded wanted ∙ e)

equal_0 : update_length 132 zeros zeros ≡ 0
unfolding cell_of shown differs differing gaps gap_cost page_length length_from update_length
equal_0 = refl

page_8_0 : update_length 132 zeros (icons 0xfe) ≡ 0
unfolding cell_of shown differs differing gaps gap_cost page_length length_from update_length
page_8_0 = refl

-- ---- the KS0717

figures0717 : Figures0717
unfolding class_of room_in read_by read_first outside_beside outside cell_of is_cell stored advanced written carried kept refusal answer memory_after shown differs differing gaps gap_cost page_length length_from update_length line_of numerator0717
figures0717 = record {
  resistor_up = refl;
  resistor_low = refl;
  resistor_reset = refl;
  last_column_memory = refl;
  last_column = refl;
  seven_bits = refl;
  row_0 = refl;
  v0_numerator = refl;
  v0_denominator = refl;
  v0_millivolts = refl;
  every_cell = refl;
  redraw = redraw_length 100 zeros0717 32;
}

-- ---- all of them

pub figures : Figures
unfolding class_of room_in read_by read_first outside_beside outside cell_of is_cell stored loaded advanced written status carried kept refusal answer memory_after shown differs on_it address emit_by joins join join_if runs wanted_bytes stretch_of page_work work_from update update_stream differing gaps gap_cost page_length length_from update_length line_of numerator
figures = record {
  status_up = refl;
  status_low = refl;
  last_column_memory = refl;
  last_column = refl;
  modify_read = refl;
  reset_column = refl;
  contrast = refl;
  reset_resistor = refl;
  reset_contrast = refl;
  reset_indicator = refl;
  reset_value = refl;
  mark_up = refl;
  mark_read = refl;
  mark_write = refl;
  mark_page = refl;
  mark_high = refl;
  mark_low = refl;
  mark_save = refl;
  mark_restore = refl;
  mark_reset = refl;
  mark_pin = refl;
  mark_others = refl;
  row_5 = refl;
  row_0 = refl;
  equal = no_update zeros zeros equal_0;
  equal_length = equal_0;
  one_byte = refl;
  gap_of_1 = refl;
  gap_of_2 = refl;
  gap_of_3 = refl;
  gap_lengths = refl;
  page_8 = no_update zeros (icons 0xfe) page_8_0;
  page_8_length = page_8_0;
  v0_numerator = refl;
  v0_denominator = refl;
  ks0717 = figures0717;
}
