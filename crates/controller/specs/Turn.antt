-- A cycle's answer taken apart, for who plays a list of cycles: the registers after it, its number, and the byte where it read one, with
-- its mark.
-- Assumes nothing.
use Rattle.std.specs.Prelude.{ℕ, ◌≡◌, Bool, cond, List}
use Rattle.std.proofs.Math.Option.{Option, none, some}
use Rattle.paper.specs.declared.sheet.Sheet.{Sheet}
use Rattle.registers.specs.declared.Registers.{Registers}
use Rattle.controller.specs.Cycle.{Outcome, answer, memory_after}
use Rattle.controller.specs.State.{after_by}
use Rattle.controller.specs.declared.turn.Turn.{Turn}

-- an answer in numbers
abbrev pub turn : Registers → ℕ → ℕ → ℕ → ℕ → Turn
turn registers number read byte fresh = record { registers = registers; number = number; read = read; byte = byte; fresh = fresh }

abbrev pub read_flag : Option ℕ → ℕ
read_flag (some b) = 1
read_flag none = 0

-- the byte that was read, 0 where none was
abbrev pub byte_read : Option ℕ → ℕ
byte_read (some b) = b
byte_read none = 0

-- whether it was fresh: 0 for a stale byte, and where no data read answered one
abbrev pub fresh_flag : Option Bool → ℕ
fresh_flag (some f) = cond f 1 0
fresh_flag none = 0

-- an answer to a cycle that began with the registers r: where it gives no registers they stay
abbrev pub turn_of : Registers → Outcome → Turn
turn_of r o = turn (after_by r o.registers) o.number (read_flag o.byte) (byte_read o.byte) (fresh_flag o.fresh)

-- what take_turn promises: the cycle's answer, taken apart, and the memory that it leaves
pub record IsTurn (k : Sheet) (r : Registers) (before : List ℕ) (kind value : ℕ) (t : Turn) (left : List ℕ) : Type 0 where
  pub tells : t ≡ turn_of r (answer k r before kind value)
  pub leaves : left ≡ memory_after k r before kind value
