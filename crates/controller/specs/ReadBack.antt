-- What reading the memory back gives, and which of it is fresh.
-- Assumes nothing.
use Rattle.std.specs.Prelude.{ℕ, zero, suc, ◌≡◌, ◌⊎◌, Bool, true, List, [], ◌∷◌}
use Rattle.std.proofs.Math.Option.{Option, some}
use Rattle.paper.specs.declared.sheet.Sheet.{Sheet}
use Rattle.controller.specs.Memory.{loaded, advanced}
use Rattle.controller.specs.Cycle.{answer}
use Rattle.controller.specs.State.{State, step}

-- a byte that is read, with its mark: true for fresh
abbrev pub Marked : Type 0
Marked = Option ℕ × Option Bool

abbrev pub marked : ℕ → Bool → Marked
marked b f = (some b, some f)

-- what n data reads answer, one after the other
unfoldable pub bytes_read : Sheet → State → ℕ → List Marked
bytes_read k s zero = []
bytes_read k s (suc n) = ((answer k s.registers s.memory 3 0).byte, (answer k s.registers s.memory 3 0).fresh) ∷ bytes_read k (step k s (3, 0)) n

-- the n cells of page p from column c on, each fresh
unfoldable pub cells_from : ℕ → List ℕ → ℕ → ℕ → ℕ → List Marked
cells_from w m p c zero = []
cells_from w m p c (suc n) = marked (loaded w m p c) true ∷ cells_from w m p (suc c) n

-- the holder, which the next data read answers, is a cell of this page as the memory holds it now, 0 where there is none: the one that the
-- column has advanced from, or on which it stands still
pub record HoldsCell (k : Sheet) (s : State) : Type 0 where
  pub column : ℕ
  pub cell : s.registers.holder ≡ loaded k.width s.memory s.registers.page column
  pub near : (s.registers.column.0 ≡ advanced k.width column) ⊎ (s.registers.column.0 ≡ column)
