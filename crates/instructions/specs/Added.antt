-- The new command set: its thirteen bytes, as they are read with what is awaited and as they are written.
-- Assumes nothing.
use Rattle.std.specs.Prelude.{ℕ, ◌-◌, ◌%◌, ◌≤◌, ◌≡◌, Bool, true, false, cond, not, ◌||◌, eqb, Result}
use Rattle.std.proofs.Math.Option.{Option, none, some}
use Rattle.paper.specs.Refusal.{out_of_range, unassigned}
use Rattle.paper.specs.Told.{Told, given, refused, told}
use Rattle.paper.specs.declared.refusal.Refusal.{Refusal}
use Rattle.instructions.specs.Write.{field_of}
use Rattle.instructions.specs.Read.{within, assigned}
use Rattle.instructions.specs.declared.instruction.Awaited.{Awaited}
use Rattle.instructions.specs.declared.instruction.Awaited.TheVariants as awaited
use Rattle.instructions.specs.declared.added.CommandSet.{CommandSet}
use Rattle.instructions.specs.declared.added.CommandSet.TheVariants.{Old, New}
use Rattle.instructions.specs.declared.added.Added.{Added}
use Rattle.instructions.specs.declared.added.Added.TheVariants.{Com0Next, Com0Value, DutyNext, DutyValue, InversionNext, InversionValue, FrameInversion}

-- ---- the sets

abbrev pub is_new : CommandSet → Bool
is_new Old = false
is_new New = true

-- an awaited byte of the other set: contrast and indicator bytes belong to the old one, these three to the new
abbrev pub of_other : CommandSet → Awaited → Bool
of_other s awaited.Nothing = false
of_other s awaited.Contrast = is_new s
of_other s awaited.Indicator = is_new s
of_other s awaited.Com0 = not (is_new s)
of_other s awaited.Duty = not (is_new s)
of_other s awaited.Inversion = not (is_new s)

-- ---- the reader

-- a byte where nothing is awaited: 44-47, 48-4B and 4C-4F open a two-byte instruction, E4 is one of one byte, and any other is refused
-- with 4, assigned in the old set or not
unfoldable pub added_first : ℕ → Told Added
added_first b =
    cond (within 0x44 0x47 b) (given Com0Next)
    (cond (within 0x48 0x4b b) (given DutyNext)
    (cond (within 0x4c 0x4f b) (given InversionNext)
    (cond (eqb b 0xe4) (given FrameInversion)
    (refused unassigned))))

-- a byte where this is awaited: a second byte is taken whatever its value, mod 128, 128 and 32; where one of the old set is awaited, a
-- register is outside its range
abbrev pub read_added : Awaited → ℕ → Told Added
read_added awaited.Nothing b = added_first b
read_added awaited.Contrast b = refused out_of_range
read_added awaited.Indicator b = refused out_of_range
read_added awaited.Com0 b = given (Com0Value (b % 128))
read_added awaited.Duty b = given (DutyValue (b % 128))
read_added awaited.Inversion b = given (InversionValue (b % 32))

-- the assigned bytes are these
unfoldable pub assigned_added : ℕ → Bool
assigned_added b = within 0x44 0x4f b || eqb b 0xe4

-- the assigned bytes of a set
abbrev pub assigned_in : CommandSet → ℕ → Bool
assigned_in Old b = assigned b
assigned_in New b = assigned_added b

-- an assigned byte with its free bits 0: bits 0 and 1 of 44-4F
unfoldable pub plain_added : ℕ → ℕ
plain_added b = cond (eqb b 0xe4) b (b - b % 4)

-- ---- the writer

-- free bits are 0, and each second byte is an instruction of its own
abbrev pub write_added : Added → Told ℕ
write_added Com0Next = given 0x44
write_added (Com0Value v) = field_of 0x00 128 v
write_added DutyNext = given 0x48
write_added (DutyValue v) = field_of 0x00 128 v
write_added InversionNext = given 0x4c
write_added (InversionValue v) = field_of 0x00 32 v
write_added FrameInversion = given 0xe4

-- a value to write is outside its field
abbrev pub OutsideAdded : Added → Type 0
OutsideAdded Com0Next = ⊥
OutsideAdded (Com0Value v) = 128 ≤ v
OutsideAdded DutyNext = ⊥
OutsideAdded (DutyValue v) = 128 ≤ v
OutsideAdded InversionNext = ⊥
OutsideAdded (InversionValue v) = 32 ≤ v
OutsideAdded FrameInversion = ⊥

-- what is awaited where an instruction's byte is read as it
abbrev pub awaited_for_added : Added → Awaited
awaited_for_added Com0Next = awaited.Nothing
awaited_for_added (Com0Value v) = awaited.Com0
awaited_for_added DutyNext = awaited.Nothing
awaited_for_added (DutyValue v) = awaited.Duty
awaited_for_added InversionNext = awaited.Nothing
awaited_for_added (InversionValue v) = awaited.Inversion
awaited_for_added FrameInversion = awaited.Nothing

-- what was read, written again; a refusal stays
abbrev pub added_written : Option Added → ℕ → Told ℕ
added_written (some i) n = write_added i
added_written none n = refused n

abbrev pub added_again : Told Added → Told ℕ
added_again t = added_written t.value t.number

-- ---- the promises

-- what the reader promises
pub record IsReadAdded (a : Awaited) (b : ℕ) (r : Result Added Refusal) : Type 0 where
  pub tells : told r ≡ read_added a b

-- what the writer promises
pub record IsWrittenAdded (i : Added) (a : Result ℕ Refusal) : Type 0 where
  pub tells : told a ≡ write_added i
