-- Order 13's figures: the bytes of the new command set and what they leave, what meets 2, 4 and 13, the pin, and a job of the new set.
-- `proofs/Ks0759Holds.antt` proves them by computing.
-- Assumes nothing.
use Rattle.std.specs.Prelude.{ℕ, ◌≡◌, true, false, List, [], ◌∷◌, ◌++◌}
use Rattle.paper.specs.Sheet.{sheet0713}
use Rattle.paper.specs.Told.{given, refused}
use Rattle.instructions.specs.Added.{read_added, write_added, added_again}
use Rattle.instructions.specs.declared.added.Added.TheVariants.{Com0Value, DutyNext, InversionValue}
use Rattle.instructions.specs.declared.added.CommandSet.TheVariants.{Old, New}
use Rattle.instructions.specs.declared.instruction.Awaited.{Awaited}
use Rattle.instructions.specs.declared.instruction.Awaited.TheVariants as awaited
use Rattle.registers.specs.Beside.{besides, outside_beside}
use Rattle.registers.specs.Registers.{start, with_contrast}
use Rattle.registers.specs.Switch.{switched}
use Rattle.registers.specs.declared.Beside.{Beside}
use Rattle.controller.specs.Run.{BusCycle}
use Rattle.controller.specs.State.{State, powered_up_in, number, run}
use Rattle.bus.specs.Cycles.{cycles_of}
use Rattle.jobs.specs.Header.{header_of}
use Rattle.jobs.specs.Play.{text_of}
use Rattle.recorder.specs.Job.{job_bytes}
use Rattle.figures.specs.Figures.{zeros, instruction, after}
use Rattle.figures.specs.Worked.{ascii}

-- after power-up in the new set, and then after some cycles
abbrev pub new : List BusCycle → State
new cycles = run sheet0713 (powered_up_in sheet0713 New zeros) cycles

-- what stands beside after a first byte and a second, and what is awaited then
abbrev pub after_two : ℕ → ℕ → Beside × Awaited
after_two first second = let r = (new (instruction first ∷ instruction second ∷ [])).registers in (r.beside, r.awaited)

-- the new set with these three, and nothing awaited
abbrev pub left : ℕ → ℕ → ℕ → Beside × Awaited
left com0 duty inversion = (besides New com0 duty inversion, awaited.Nothing)

-- 44 4F, 48 11, 4C E4
abbrev pub job_cycles : List ℕ
job_cycles = 0x00 ∷ 0x44 ∷ 0x00 ∷ 0x4f ∷ 0x00 ∷ 0x48 ∷ 0x00 ∷ 0x11 ∷ 0x00 ∷ 0x4c ∷ 0x00 ∷ 0xe4 ∷ []

abbrev pub new_job : List ℕ
new_job = 0x06 ∷ 0x00 ∷ 0x08 ∷ 0x00 ∷ 0x00 ∷ 0x01 ∷ 0x14 ∷ 0x00 ∷ job_cycles

-- and once more E4
abbrev pub new_job_e4 : List ℕ
new_job_e4 = 0x07 ∷ 0x00 ∷ 0x08 ∷ 0x00 ∷ 0x00 ∷ 0x01 ∷ 0x16 ∷ 0x00 ∷ (job_cycles ++ (0x00 ∷ 0xe4 ∷ []))

-- a job of no cycles and no picture with these two bytes for the picture count
abbrev pub bare : ℕ → ℕ → List ℕ
bare low high = 0x00 ∷ 0x00 ∷ 0x08 ∷ 0x00 ∷ low ∷ high ∷ 0x08 ∷ 0x00 ∷ []

pub record Ks0759 : Type 0 where
  -- at power-up 0, 81 and 0
  pub start_new : (new []).registers.beside ≡ besides New 0 81 0
  pub start_old : (start sheet0713 0 false).beside ≡ besides Old 0 81 0
  -- initial COM0: 79, and D0, which is 80 mod 128, does nothing; FF neither. The byte is spent
  pub com0_79 : after_two 0x44 0x4f ≡ left 79 81 0
  pub com0_cf : after_two 0x47 0xcf ≡ left 79 81 0
  pub com0_80 : after_two 0x44 0xd0 ≡ left 0 81 0
  pub com0_ff : after_two 0x44 0xff ≡ left 0 81 0
  -- the duty: 17 and 80; 16 and 82 do nothing
  pub duty_17 : after_two 0x48 0x11 ≡ left 0 17 0
  pub duty_80 : after_two 0x4b 0xd0 ≡ left 0 80 0
  pub duty_16 : after_two 0x48 0x10 ≡ left 0 81 0
  pub duty_82 : after_two 0x48 0x52 ≡ left 0 81 0
  -- inversion: 1F is 33 lines, 01 is 3, 20 is frame inversion, E4 as a second byte is 6 lines
  pub inversion_33 : after_two 0x4c 0x1f ≡ left 0 81 33
  pub inversion_3 : after_two 0x4f 0x01 ≡ left 0 81 3
  pub inversion_0 : after_two 0x4c 0x20 ≡ left 0 81 0
  pub inversion_e4 : after_two 0x4c 0xe4 ≡ left 0 81 6
  -- E4 alone: back to frame inversion
  pub frame_again : (new (instruction 0x4c ∷ instruction 0x01 ∷ instruction 0xe4 ∷ [])).registers.beside ≡ besides New 0 81 0
  -- written
  pub write_duty : write_added DutyNext ≡ given 0x48
  pub write_com0 : write_added (Com0Value 127) ≡ given 127
  pub write_inversion : write_added (InversionValue 32) ≡ refused 6
  pub again_4e : added_again (read_added awaited.Nothing 0x4e) ≡ given 0x4c
  -- every other instruction byte is refused with 4: a page, E3, 81, 43, 50
  pub page_new : number sheet0713 (new []) (0, 0xb0) ≡ 4
  pub nop_new : number sheet0713 (new []) (0, 0xe3) ≡ 4
  pub contrast_new : number sheet0713 (new []) (0, 0x81) ≡ 4
  pub below_new : number sheet0713 (new []) (0, 0x43) ≡ 4
  pub above_new : number sheet0713 (new []) (0, 0x50) ≡ 4
  -- a data write is stored as in the old set
  pub write_new : (new ((1, 0x7e) ∷ [])).memory ≡ (after ((1, 0x7e) ∷ [])).memory
  -- in the old set 44 is a start line, and E4 is refused with 4
  pub line_old : (after (instruction 0x44 ∷ [])).registers.start_line ≡ 4
  pub e4_old : number sheet0713 (after []) (0, 0xe4) ≡ 4
  -- pin low: the three at their start values, and still the new set
  pub pin_new : (new (instruction 0x44 ∷ instruction 0x05 ∷ (4, 0) ∷ [])).registers.beside ≡ besides New 0 81 0
  -- what the bytes can't set meets 2, in either set; and so does an awaited byte of the other set
  pub com0_out : outside_beside awaited.Nothing (besides Old 80 81 0) ≡ true
  pub duty_below : outside_beside awaited.Nothing (besides New 0 16 0) ≡ true
  pub duty_above : outside_beside awaited.Nothing (besides New 0 82 0) ≡ true
  pub one_line : outside_beside awaited.Nothing (besides New 0 81 1) ≡ true
  pub two_lines : outside_beside awaited.Nothing (besides Old 0 81 2) ≡ true
  pub lines_34 : outside_beside awaited.Nothing (besides New 0 81 34) ≡ true
  pub the_most : outside_beside awaited.Inversion (besides New 79 81 33) ≡ false
  pub contrast_out : outside_beside awaited.Contrast (besides New 0 81 0) ≡ true
  pub duty_out : outside_beside awaited.Duty (besides Old 0 81 0) ≡ true
  -- a switch: 13 after 81, and after 44 in the new set; with contrast 64 2 comes before it
  pub switch_old : switched sheet0713 (after (instruction 0x81 ∷ [])).registers New ≡ refused 13
  pub switch_same : switched sheet0713 (new (instruction 0x44 ∷ [])).registers New ≡ refused 13
  pub switch_out : switched sheet0713 (with_contrast (after (instruction 0x81 ∷ [])).registers 64) New ≡ refused 2
  pub switch_new : switched sheet0713 (after []).registers New ≡ given (new []).registers
  -- the job of the new set, played and written
  pub played : text_of new_job ≡ ascii "end 0 0 0 0 0 0 0 0 0 32 79 17 6\n"
  pub played_e4 : text_of new_job_e4 ≡ ascii "end 0 0 0 0 0 0 0 0 0 32 79 17 0\n"
  pub job_written : job_bytes New (cycles_of job_cycles) 0 [] ≡ new_job
  -- the picture count field: 0 and 256; 3, 255, 258 and 512 are refused with 8
  pub field_0 : header_of (bare 0x00 0x00) ≡ given (record { cycles = 0; pictures = 0; set = Old })
  pub field_256 : header_of (bare 0x00 0x01) ≡ given (record { cycles = 0; pictures = 0; set = New })
  pub field_3 : header_of (bare 0x03 0x00) ≡ refused 8
  pub field_255 : header_of (bare 0xff 0x00) ≡ refused 8
  pub field_258 : header_of (bare 0x02 0x01) ≡ refused 8
  pub field_512 : header_of (bare 0x00 0x02) ≡ refused 8
