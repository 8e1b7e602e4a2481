-- What is awaited, and a command set, by number, as C and the state's bytes have them.
-- Assumes nothing.
use Rattle.std.specs.Prelude.{ℕ, ◌≡◌, ◌<◌, Result, MatchResult}
use Rattle.paper.specs.declared.refusal.Refusal.{Refusal}
use Rattle.paper.specs.declared.refusal.Refusal.TheVariants.{OutOfRange}
use Rattle.instructions.specs.declared.instruction.Awaited.{Awaited}
use Rattle.instructions.specs.declared.instruction.Awaited.TheVariants as awaited
use Rattle.instructions.specs.declared.added.CommandSet.{CommandSet}
use Rattle.instructions.specs.declared.added.CommandSet.TheVariants.{Old, New}

-- which second byte is awaited: 0 nothing, 1 contrast, 2 indicator, 3 initial COM0, 4 duty, 5 inversion
abbrev pub awaited_byte : Awaited → ℕ
awaited_byte awaited.Nothing = 0
awaited_byte awaited.Contrast = 1
awaited_byte awaited.Indicator = 2
awaited_byte awaited.Com0 = 3
awaited_byte awaited.Duty = 4
awaited_byte awaited.Inversion = 5

-- what is awaited by this number; above 5 there is nothing, which is refused with 2
abbrev pub IsAwaited : ℕ → Result Awaited Refusal → Type 0
IsAwaited n r = MatchResult r (λ a. awaited_byte a ≡ n) (λ e. (e ≡ OutOfRange) × (5 < n))

-- which command set is in force: 0 old, 1 new
abbrev pub set_byte : CommandSet → ℕ
set_byte Old = 0
set_byte New = 1

-- the set of this number; above 1 there is none, which is refused with 2
abbrev pub IsSet : ℕ → Result CommandSet Refusal → Type 0
IsSet n r = MatchResult r (λ s. set_byte s ≡ n) (λ e. (e ≡ OutOfRange) × (1 < n))
