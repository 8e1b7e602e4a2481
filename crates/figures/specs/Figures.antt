-- Document 01's figures marked P, in its words and order, with order 5's figures of E2, order 2's of the mark, and the KS0717's: one
-- table, one claim.
-- `proofs/FiguresHold.antt` proves it by computing.
-- Assumes nothing.
use Rattle.std.specs.Prelude.{ℕ, ◌+◌, ◌*◌, ◌≡◌, Bool, true, false, List, [], ◌∷◌, ◌++◌, length, set, replicate}
use Rattle.std.proofs.Math.Option.{Option, some}
use Rattle.paper.specs.Sheet.{sheet0713, sheet0717}
use Rattle.registers.specs.Registers.{start}
use Rattle.controller.specs.Cycle.{answer}
use Rattle.controller.specs.Run.{BusCycle}
use Rattle.controller.specs.State.{State, state, run}
use Rattle.glass.specs.Dot.{line_of}
use Rattle.glass.specs.Voltage.{numerator, denominator, numerator0717, denominator0717}
use Rattle.streams.specs.Update.{update_stream}
use Rattle.streams.specs.Length.{update_length}
use Rattle.streams.specs.Redraw.{redraw_stream}

-- a picture of zeros
abbrev pub zeros : List ℕ
zeros = replicate 1188 0

-- after power-up, and then after some cycles
abbrev pub up : State
up = state (start sheet0713 0 false) zeros

abbrev pub after : List BusCycle → State
after cycles = run sheet0713 up cycles

abbrev pub instruction : ℕ → BusCycle
instruction b = (0, b)

abbrev pub byte : ℕ → BusCycle
byte b = (1, b)

-- resistor 5, contrast 63, indicator on with value 3, and E2
abbrev pub set_then_reset : List BusCycle
set_then_reset =
    instruction 0x25 ∷ instruction 0x81 ∷ instruction 0x3f ∷ instruction 0xad ∷ instruction 0x03 ∷ instruction 0xe2 ∷ []

-- what a status read answers
abbrev pub status_of : State → Option ℕ
status_of s = (answer sheet0713 s.registers s.memory 2 0).byte

-- how a data read would be told: fresh is true
abbrev pub mark_of : State → Option Bool
mark_of s = (answer sheet0713 s.registers s.memory 3 0).fresh

-- two data reads, and then some cycles
abbrev pub read_then : List BusCycle → State
read_then cycles = after ((3, 0) ∷ (3, 0) ∷ cycles)

-- zeros but for one byte at page p, column c
abbrev pub spot : ℕ → ℕ → ℕ → List ℕ → List ℕ
spot p c v picture = set picture (132 * p + c) v

-- page 8 full of a byte, all other pages 0
abbrev pub icons : ℕ → List ℕ
icons v = replicate 1056 0 ++ replicate 132 v

-- ---- the KS0717

abbrev pub zeros0717 : List ℕ
zeros0717 = replicate 900 0

abbrev pub after0717 : List BusCycle → State
after0717 cycles = run sheet0717 (state (start sheet0717 0 false) zeros0717) cycles

pub record Figures0717 : Type 0 where
  -- at power-up the resistor is 4, and after pin low
  pub resistor_up : (after0717 []).registers.resistor ≡ 4
  pub resistor_low : (after0717 (instruction 0x27 ∷ (4, 0) ∷ [])).registers.resistor ≡ 4
  -- 27, E2: resistor 4 (order 5)
  pub resistor_reset : (after0717 (instruction 0x27 ∷ instruction 0xe2 ∷ [])).registers.resistor ≡ 4
  -- column 99, two writes: the first is stored, the second not; column 100
  pub last_column_memory : (after0717 (instruction 0x16 ∷ instruction 0x03 ∷ byte 5 ∷ byte 7 ∷ [])).memory ≡ set zeros0717 99 5
  pub last_column : (after0717 (instruction 0x16 ∷ instruction 0x03 ∷ byte 5 ∷ byte 7 ∷ [])).registers.column.0 ≡ 100
  -- 1F then 0F: column 127
  pub seven_bits : (after0717 (instruction 0x1f ∷ instruction 0x0f ∷ [])).registers.column.0 ≡ 127
  -- start 60, SHL 1, row 0: line 49
  pub row_0 : line_of sheet0717.rows 60 true 0 ≡ 49
  -- resistor 7, contrast 63: 362,880/27, which is 13,440 mV
  pub v0_numerator : numerator0717 7 63 ≡ 362880
  pub v0_denominator : denominator0717 ≡ 27
  pub v0_millivolts : numerator0717 7 63 ≡ 13440 * denominator0717
  -- every cell differs: 927 bytes; a redraw: 931
  pub every_cell : update_length 100 zeros0717 (replicate 900 1) ≡ 927
  pub redraw : length (redraw_stream 100 zeros0717 32) ≡ 931

-- ---- all of them

pub record Figures : Type 0 where
  -- after power-up status is 60; with the pin low 70
  pub status_up : status_of up ≡ some 0x60
  pub status_low : status_of (after ((4, 0) ∷ [])) ≡ some 0x70
  -- column 131, two writes: the first is stored, the second not; column 132
  pub last_column_memory : (after (instruction 0x18 ∷ instruction 0x03 ∷ byte 5 ∷ byte 7 ∷ [])).memory ≡ spot 0 131 5 zeros
  pub last_column : (after (instruction 0x18 ∷ instruction 0x03 ∷ byte 5 ∷ byte 7 ∷ [])).registers.column.0 ≡ 132
  -- E0 at column 7, one write, EE: column 7
  pub modify_read : (after (instruction 0x07 ∷ instruction 0xe0 ∷ byte 1 ∷ instruction 0xee ∷ [])).registers.column.0 ≡ 7
  -- E0 at column 7, one write, E2, EE: column 0, since E2 forgets the saved column (order 5)
  pub reset_column : (after (instruction 0x07 ∷ instruction 0xe0 ∷ byte 1 ∷ instruction 0xe2 ∷ instruction 0xee ∷ [])).registers.column.0 ≡ 0
  -- 81 then FF: contrast 63
  pub contrast : (after (instruction 0x81 ∷ instruction 0xff ∷ [])).registers.contrast ≡ 63
  -- 25, 81 3F, AD 03, E2: resistor 0, contrast 32, indicator off, value 0 (order 5)
  pub reset_resistor : (after set_then_reset).registers.resistor ≡ 0
  pub reset_contrast : (after set_then_reset).registers.contrast ≡ 32
  pub reset_indicator : (after set_then_reset).registers.indicator ≡ false
  pub reset_value : (after set_then_reset).registers.indicator_value ≡ 0
  -- power-up is stale, and after a data read the next one is fresh (order 2, as all these)
  pub mark_up : mark_of up ≡ some false
  pub mark_read : mark_of (after ((3, 0) ∷ [])) ≡ some true
  -- then a data write, a page or column instruction, E0, EE, E2 or pin low makes it stale
  pub mark_write : mark_of (read_then (byte 5 ∷ [])) ≡ some false
  pub mark_page : mark_of (read_then (instruction 0xb0 ∷ [])) ≡ some false
  pub mark_high : mark_of (read_then (instruction 0x10 ∷ [])) ≡ some false
  pub mark_low : mark_of (read_then (instruction 0x00 ∷ [])) ≡ some false
  pub mark_save : mark_of (read_then (instruction 0xe0 ∷ [])) ≡ some false
  pub mark_restore : mark_of (read_then (instruction 0xee ∷ [])) ≡ some false
  pub mark_reset : mark_of (read_then (instruction 0xe2 ∷ [])) ≡ some false
  pub mark_pin : mark_of (read_then ((4, 0) ∷ (5, 0) ∷ [])) ≡ some false
  -- and a status read, pin high, another instruction, a page byte taken as contrast, and a refused cycle don't count
  pub mark_others : mark_of (read_then ((2, 0) ∷ (5, 0) ∷ instruction 0xe3 ∷ instruction 0x81 ∷ instruction 0xb0 ∷ instruction 0x30 ∷ [])) ≡ some true
  -- start 60, SHL 0, row 5: line 1. SHL 1, row 0: line 59
  pub row_5 : line_of sheet0713.rows 60 false 5 ≡ 1
  pub row_0 : line_of sheet0713.rows 60 true 0 ≡ 59
  -- pictures equal: 0 bytes
  pub equal : update_stream 132 zeros zeros ≡ []
  pub equal_length : update_length 132 zeros zeros ≡ 0
  -- only page 3 column 37 differs, wanted FF: B3 12 05 FF
  pub one_byte : update_stream 132 zeros (spot 3 37 0xff zeros) ≡ instruction 0xb3 ∷ instruction 0x12 ∷ instruction 0x05 ∷ byte 0xff ∷ []
  -- page 0, columns 10 and 12: 6 bytes; 10 and 13: 7, one stretch; 10 and 14: 7, two
  pub gap_of_1 : update_stream 132 zeros (spot 0 10 1 (spot 0 12 2 zeros))
      ≡ instruction 0xb0 ∷ instruction 0x10 ∷ instruction 0x0a ∷ byte 1 ∷ byte 0 ∷ byte 2 ∷ []
  pub gap_of_2 : update_stream 132 zeros (spot 0 10 1 (spot 0 13 2 zeros))
      ≡ instruction 0xb0 ∷ instruction 0x10 ∷ instruction 0x0a ∷ byte 1 ∷ byte 0 ∷ byte 0 ∷ byte 2 ∷ []
  pub gap_of_3 : update_stream 132 zeros (spot 0 10 1 (spot 0 14 2 zeros))
      ≡ instruction 0xb0 ∷ instruction 0x10 ∷ instruction 0x0a ∷ byte 1 ∷ instruction 0x10 ∷ instruction 0x0e ∷ byte 2 ∷ []
  pub gap_lengths : update_length 132 zeros (spot 0 10 1 (spot 0 14 2 zeros)) ≡ 7
  -- page 8 recorded 00, wanted FE: 0 bytes
  pub page_8 : update_stream 132 zeros (icons 0xfe) ≡ []
  pub page_8_length : update_length 132 zeros (icons 0xfe) ≡ 0
  -- resistor 7, contrast 63: 194,400/15
  pub v0_numerator : numerator 7 63 ≡ 194400
  pub v0_denominator : denominator ≡ 15
  -- and on the KS0717
  pub ks0717 : Figures0717
