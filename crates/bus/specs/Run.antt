-- A list of cycles, played: the chip after them, and each one's answer.
-- Assumes nothing.
use Rattle.std.specs.Prelude.{ℕ, ◌*◌, ◌≡◌, Bool, cond, not, ◌||◌, List, map, length, ltb, eqb, Result}
use Rattle.paper.specs.Refusal.{wrong_size, out_of_range, short_output}
use Rattle.paper.specs.Told.{given, refused, told}
use Rattle.paper.specs.declared.refusal.Refusal.{Refusal}
use Rattle.paper.specs.Over.{over}
use Rattle.paper.specs.declared.sheet.Sheet.{Sheet}
use Rattle.registers.specs.Registers.{outside}
use Rattle.registers.specs.declared.Registers.{Registers}
use Rattle.controller.specs.State.{State, state, run}
use Rattle.controller.specs.declared.turn.Turn.{Turn}
use Rattle.bus.specs.Cycles.{cycles_of, turns}

-- ---- the four outputs, an entry a cycle

pub record Outputs : Type 0 where
  pub numbers : List ℕ
  pub reads : List ℕ
  pub bytes : List ℕ
  pub fresh : List ℕ

abbrev pub outputs : List ℕ → List ℕ → List ℕ → List ℕ → Outputs
outputs numbers reads bytes fresh = record { numbers = numbers; reads = reads; bytes = bytes; fresh = fresh }

-- the number that a cycle is refused with, 0 for none; 1 where it read a byte, else 0; the byte, 0 where it read none; and 1 where that is
-- a fresh byte of a data read, else 0
abbrev pub number_entry : Turn → ℕ
number_entry t = t.number

abbrev pub read_entry : Turn → ℕ
read_entry t = t.read

abbrev pub byte_entry : Turn → ℕ
byte_entry t = t.byte

abbrev pub fresh_entry : Turn → ℕ
fresh_entry t = t.fresh

-- the answers in front of the outputs: longer ones keep their rest
abbrev pub answered : List Turn → Outputs → Outputs
answered ts o = outputs (over (map number_entry ts) o.numbers) (over (map read_entry ts) o.reads) (over (map byte_entry ts) o.bytes) (over (map fresh_entry ts) o.fresh)

-- an output is shorter than the list of cycles
unfoldable pub too_short : ℕ → Outputs → Bool
too_short n o = ltb (length o.numbers) n || ltb (length o.reads) n || ltb (length o.bytes) n || ltb (length o.fresh) n

-- ---- the whole list

-- the number that a run is refused with, 0 for none: 1 for the memory, 2 for a register, 5 for an output, in this order
unfoldable pub run_refusal : Sheet → Registers → ℕ → Bool → ℕ
run_refusal k r memory short =
    cond (not (eqb memory (9 * k.width))) wrong_size (cond (outside k r) out_of_range (cond short short_output 0))

abbrev pub refusal_of : Sheet → Registers → List ℕ → List ℕ → Outputs → ℕ
refusal_of k r memory cycles o = run_refusal k r (length memory) (too_short (length (cycles_of cycles)) o)

-- what is played: the cycles of the list from the registers r and a memory
abbrev pub ran_from : Sheet → Registers → List ℕ → List ℕ → State
ran_from k r memory cycles = run k (state r memory) (cycles_of cycles)

-- what a run promises: the registers and the memory after the cycles and each one's answer; a refusal leaves memory and outputs
pub record IsRun (k : Sheet) (r : Registers) (before cycles : List ℕ) (o : Outputs) (a : Result Registers Refusal) (left : List ℕ) (o' : Outputs) : Type 0 where
  pub tells : told a ≡ cond (eqb (refusal_of k r before cycles o) 0) (given (ran_from k r before cycles).registers) (refused (refusal_of k r before cycles o))
  pub leaves : left ≡ cond (eqb (refusal_of k r before cycles o) 0) (ran_from k r before cycles).memory before
  pub answers : o' ≡ cond (eqb (refusal_of k r before cycles o) 0) (answered (turns k (state r before) (cycles_of cycles)) o) o
