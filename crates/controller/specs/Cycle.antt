-- One cycle on the bus: what it answers, and what the memory holds after it.
-- Assumes nothing.
use Rattle.std.specs.Prelude.{ℕ, ◌+◌, ◌*◌, ◌≡◌, Bool, true, false, cond, not, ◌&&◌, ◌||◌, List, length, ltb, eqb, Result, Ok, Err}
use Rattle.std.proofs.Math.Option.{Option, none, some}
use Rattle.paper.specs.Refusal.{wrong_size, out_of_range, pin_low, unassigned, wrong_cycle, number_of}
use Rattle.paper.specs.Told.{Told}
use Rattle.paper.specs.declared.refusal.Refusal.{Refusal}
use Rattle.paper.specs.declared.sheet.Sheet.{Sheet}
use Rattle.instructions.specs.Read.{read_of, nothing_awaited}
use Rattle.instructions.specs.Added.{read_added, assigned_in}
use Rattle.instructions.specs.declared.added.Added.{Added}
use Rattle.instructions.specs.declared.added.CommandSet.{CommandSet}
use Rattle.instructions.specs.declared.added.CommandSet.TheVariants.{Old, New}
use Rattle.instructions.specs.declared.instruction.Instruction.{Instruction}
use Rattle.registers.specs.Registers.{column, with_column, with_holder, with_pin_low, with_fresh, with_set, start, outside}
use Rattle.registers.specs.declared.ModifyRead.{ModifyRead}
use Rattle.registers.specs.declared.ModifyRead.TheVariants.{Off, On}
use Rattle.registers.specs.declared.Registers.{Registers}
use Rattle.controller.specs.Execute.{executed, ends_reading}
use Rattle.controller.specs.Added.{executed_added}
use Rattle.controller.specs.Memory.{stored, loaded, advanced}
use Rattle.controller.specs.declared.cycle.Answer.{Answer}
use Rattle.controller.specs.declared.cycle.Answer.TheVariants.{Done, Status, Read}

-- ---- an answer as the paper tells it

-- the number it is refused with, 0 for none, the byte that is read, whether that is fresh where it is a data read's, and the registers
-- after it where they may change
pub record Outcome : Type 0 where
  pub number : ℕ
  pub byte : Option ℕ
  pub fresh : Option Bool
  pub registers : Option Registers

abbrev pub done : Registers → Outcome
done r = record { number = 0; byte = none; fresh = none; registers = some r }

abbrev pub status_read : ℕ → Outcome
status_read b = record { number = 0; byte = some b; fresh = none; registers = none }

abbrev pub data_read : ℕ → Bool → Registers → Outcome
data_read b f r = record { number = 0; byte = some b; fresh = some f; registers = some r }

abbrev pub refused_with : ℕ → Outcome
refused_with n = record { number = n; byte = none; fresh = none; registers = none }

abbrev pub answered : Answer → Outcome
answered (Done r) = done r
answered (Status b) = status_read b
answered (Read r b f) = data_read b f r

abbrev pub outcome : Result Answer Refusal → Outcome
outcome (Ok a) = answered a
outcome (Err e) = refused_with (number_of e)

-- ---- the six kinds

-- data write: the byte enters the holder, then the column advances
unfoldable pub written : ℕ → Registers → ℕ → Registers
written w r v = with_holder (with_column r (column (advanced w r.column.0))) v

-- data read: the holder is loaded, then the column advances unless modify-read is on
abbrev pub after_read : ℕ → Registers → ModifyRead → ℕ → Registers
after_read w r Off b = written w r b
after_read w r (On c) b = with_holder r b

-- pin low: every register takes its start value; the holder is kept, and so is the command set
abbrev pub after_low : Sheet → Registers → Registers
after_low k r = with_set (start k r.holder true) r.beside.set

-- status: bit 6 is 1 for ADC 0; bit 5 is 1 for display off; bit 4 is 1 while the pin is low; the rest 0
unfoldable pub status : Registers → ℕ
status r = cond r.adc 0 64 + cond r.on 0 32 + cond r.pin_low 16 0

-- an instruction: what it does; and the mark stays, but for one that ends reading
abbrev pub after_instruction : Sheet → Registers → Instruction → Registers
after_instruction k r i = with_fresh (executed k r i) (not (ends_reading i) && r.fresh)

-- an instruction byte that was read as this
abbrev pub instructed_by : Sheet → Registers → ℕ → Option Instruction → Outcome
instructed_by k r n (some i) = done (after_instruction k r i)
instructed_by k r n none = refused_with n

abbrev pub instructed : Sheet → Registers → Told Instruction → Outcome
instructed k r t = instructed_by k r t.number t.value

-- and one of the new set, which leaves the mark
abbrev pub instructed_added_by : Registers → ℕ → Option Added → Outcome
instructed_added_by r n (some i) = done (executed_added r i)
instructed_added_by r n none = refused_with n

abbrev pub instructed_added : Registers → Told Added → Outcome
instructed_added r t = instructed_added_by r t.number t.value

-- an instruction byte is one of the set that is in force
abbrev pub instructed_in : Sheet → Registers → ℕ → CommandSet → Outcome
instructed_in k r value Old = instructed k r (read_of k r.awaited value)
instructed_in k r value New = instructed_added r (read_added r.awaited value)

-- kinds 0 instruction, 1 data write, 2 status read, 3 data read, 4 reset pin low, 5 reset pin high. A data read answers the mark that
-- it finds, and after it the mark is fresh; after a data write and pin low it is stale
unfoldable pub carried : Sheet → Registers → List ℕ → ℕ → ℕ → Outcome
carried k r m kind value =
    cond (eqb kind 0) (instructed_in k r value r.beside.set)
    (cond (eqb kind 1) (done (with_fresh (written k.width r value) false))
    (cond (eqb kind 2) (status_read (status r))
    (cond (eqb kind 3) (data_read r.holder r.fresh (with_fresh (after_read k.width r r.modify_read (loaded k.width m r.page r.column.0)) true))
    (cond (eqb kind 4) (done (after_low k r))
    (done (with_pin_low r false))))))

-- only a data write changes the memory
unfoldable pub kept : ℕ → Registers → List ℕ → ℕ → ℕ → List ℕ
kept w r m kind value = cond (eqb kind 1) (stored w m r.page r.column.0 value) m

-- ---- refusals

-- kind above 5, or value not 0 in kinds 2 to 5
abbrev pub malformed : ℕ → ℕ → Bool
malformed kind value = ltb 5 kind || (ltb 1 kind && ltb 0 value)

-- pin low, and the cycle is kind 0, 1 or 3
abbrev pub held_low : Registers → ℕ → Bool
held_low r kind = r.pin_low && (ltb kind 2 || eqb kind 3)

-- the number that a cycle is refused with before its instruction byte is looked at: 1, 2, 9, 3 in this order, 0 for none
unfoldable pub refusal : Sheet → ℕ → Registers → ℕ → ℕ → ℕ
refusal k n r kind value =
    cond (not (eqb n (9 * k.width))) wrong_size
    (cond (outside k r) out_of_range
    (cond (malformed kind value) wrong_cycle
    (cond (held_low r kind) pin_low
    0)))

-- an instruction byte unassigned in the set that is in force, and nothing awaited
unfoldable pub unread : Registers → ℕ → ℕ → Bool
unread r kind value = eqb kind 0 && (nothing_awaited r.awaited && not (assigned_in r.beside.set value))

-- the number that a cycle is refused with, 0 for none: 1, 2, 9, 3, 4 in this order. `proofs/Unique.antt` shows that `answer` has it
unfoldable pub cycle_number : Sheet → ℕ → Registers → ℕ → ℕ → ℕ
cycle_number k n r kind value =
    cond (not (eqb n (9 * k.width))) wrong_size
    (cond (outside k r) out_of_range
    (cond (malformed kind value) wrong_cycle
    (cond (held_low r kind) pin_low
    (cond (unread r kind value) unassigned
    0))))

-- ---- the whole cycle

unfoldable pub answer : Sheet → Registers → List ℕ → ℕ → ℕ → Outcome
answer k r m kind value =
    cond (eqb (refusal k (length m) r kind value) 0) (carried k r m kind value) (refused_with (refusal k (length m) r kind value))

unfoldable pub memory_after : Sheet → Registers → List ℕ → ℕ → ℕ → List ℕ
memory_after k r m kind value = cond (eqb (refusal k (length m) r kind value) 0) (kept k.width r m kind value) m

-- what a cycle promises: its answer, and the memory that it leaves
pub record Cycled (k : Sheet) (r : Registers) (before : List ℕ) (kind value : ℕ) (a : Result Answer Refusal) (left : List ℕ) : Type 0 where
  pub tells : outcome a ≡ answer k r before kind value
  pub leaves : left ≡ memory_after k r before kind value
