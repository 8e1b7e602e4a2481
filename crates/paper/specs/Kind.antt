-- The six kinds of a bus cycle by their numbers.
-- Assumes nothing.
use Rattle.std.specs.Prelude.{ℕ, ◌≡◌, ◌<◌, Result, MatchResult}
use Rattle.paper.specs.declared.refusal.Refusal.{Refusal}
use Rattle.paper.specs.declared.refusal.Refusal.TheVariants.{WrongCycle}
use Rattle.paper.specs.declared.kind.Kind.{Kind}
use Rattle.paper.specs.declared.kind.Kind.TheVariants.{Instruction, DataWrite, StatusRead, DataRead, PinLow, PinHigh}

-- 0 instruction, 1 data write, 2 status read, 3 data read, 4 reset pin low, 5 reset pin high
abbrev pub kind_number : Kind → ℕ
kind_number Instruction = 0
kind_number DataWrite = 1
kind_number StatusRead = 2
kind_number DataRead = 3
kind_number PinLow = 4
kind_number PinHigh = 5

-- the kind with this number; a number above 5 is none, and is refused with 9
abbrev pub IsKind : ℕ → Result Kind Refusal → Type 0
IsKind n r = MatchResult r (λ k. kind_number k ≡ n) (λ e. (e ≡ WrongCycle) × (5 < n))
