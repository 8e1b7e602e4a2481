-- The number that a refusal carries, by name, in the order of document 01's table, then by order. No refusal is 0.
-- Assumes nothing.
use Rattle.std.specs.Prelude.{ℕ}
use Rattle.paper.specs.declared.refusal.Refusal.{Refusal}
use Rattle.paper.specs.declared.refusal.Refusal.TheVariants.{WrongSize, OutOfRange, PinLow, Unassigned, ShortOutput, OutsideField, ShortJob, WrongHeader, WrongCycle, NoText, AwaitedAtSwitch}

-- a picture, memory or frame buffer is not nine pages
abbrev pub wrong_size : ℕ
wrong_size = 1

-- a register is outside its range
abbrev pub out_of_range : ℕ
out_of_range = 2

-- pin low, and the cycle is kind 0, 1 or 3
abbrev pub pin_low : ℕ
pin_low = 3

-- instruction byte unassigned and nothing awaited
abbrev pub unassigned : ℕ
unassigned = 4

-- either output shorter than the stream needs
abbrev pub short_output : ℕ
short_output = 5

-- a value to write is outside its field
abbrev pub outside_field : ℕ
outside_field = 6

-- job shorter than 8 bytes
abbrev pub short_job : ℕ
short_job = 7

-- N, P, an offset or the total is wrong
abbrev pub wrong_header : ℕ
wrong_header = 8

-- kind above 5, or value not 0 in kinds 2 to 5
abbrev pub wrong_cycle : ℕ
wrong_cycle = 9

-- order 11: a text no list of cycles has
abbrev pub no_text : ℕ
no_text = 11

-- order 13: a byte is awaited at a switch of the command set
abbrev pub awaited_at_switch : ℕ
awaited_at_switch = 13

-- the number of each
abbrev pub number_of : Refusal → ℕ
number_of WrongSize = wrong_size
number_of OutOfRange = out_of_range
number_of PinLow = pin_low
number_of Unassigned = unassigned
number_of ShortOutput = short_output
number_of OutsideField = outside_field
number_of ShortJob = short_job
number_of WrongHeader = wrong_header
number_of WrongCycle = wrong_cycle
number_of NoText = no_text
number_of AwaitedAtSwitch = awaited_at_switch
