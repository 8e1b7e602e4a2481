-- What the new command set has beside the registers of the sheet: which set is in force, initial COM0, partial duty, and after how many
-- lines the drive is inverted, 0 for frame inversion; their start values and their ranges.
-- Assumes nothing.
use Rattle.std.specs.Prelude.{ℕ, ◌≤◌, ◌≡◌, ◌≢◌, Bool, false, ◌||◌, ltb, eqb}
use Rattle.instructions.specs.Added.{of_other}
use Rattle.instructions.specs.declared.added.CommandSet.{CommandSet}
use Rattle.instructions.specs.declared.instruction.Awaited.{Awaited}
use Rattle.registers.specs.declared.Beside.{Beside}

abbrev pub besides : CommandSet → ℕ → ℕ → ℕ → Beside
besides set com0 duty inversion = record { set = set; com0 = com0; duty = duty; inversion = inversion }

-- a set with the three at their start values: 0, 81 and 0
abbrev pub start_beside : CommandSet → Beside
start_beside set = besides set 0 81 0

-- a value that the bytes can't set, COM0 above 79, duty below 17 or above 81, inversion 1, 2 or above 33; or an awaited byte of the
-- other set. This holds in either set
unfoldable pub outside_beside : Awaited → Beside → Bool
outside_beside a b =
    ltb 79 b.com0 || ltb b.duty 17 || ltb 81 b.duty || eqb b.inversion 1 || eqb b.inversion 2 || ltb 33 b.inversion
    || of_other b.set a

-- the same, line by line
pub record RangedBeside (a : Awaited) (b : Beside) : Type 0 where
  pub com0 : b.com0 ≤ 79
  pub duty_least : 17 ≤ b.duty
  pub duty_most : b.duty ≤ 81
  pub not_1 : b.inversion ≢ 1
  pub not_2 : b.inversion ≢ 2
  pub inversion_most : b.inversion ≤ 33
  pub own : of_other b.set a ≡ false
