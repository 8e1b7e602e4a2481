-- The digits of the player's text, for a text that is read back.
-- Assumes nothing.
use Prim.Native.Nat.{ℕ, ◌+◌, ◌/◌, ◌%◌, ◌≤◌, ◌<◌}
use mathlib.Core.Path.{◌≡◌, refl}
use mathlib.Core.List.{[], ◌∷◌}
use borrow.Author.Tests.{lt-ltb, le-ltb}
use Rattle.paper.specs.Listed.{listed}
use Rattle.jobs.specs.Text.{digit, hex}

-- two digits, the high one first
pub hex_is : (b : ℕ) → hex b ≡ digit (b / 16) ∷ digit (b % 16) ∷ []
unfolding hex
hex_is b = refl

-- 0 to 9, and a to f
pub digit_low : (d : ℕ) → d < 10 → digit d ≡ 48 + d
unfolding digit
digit_low d h = rw (lt-ltb d 10 h)

pub digit_high : (d : ℕ) → 10 ≤ d → digit d ≡ 87 + d
unfolding digit
digit_high d h = rw (le-ltb d 10 h)

-- all sixteen
pub digits_are : listed digit 0 16 ≡ 48 ∷ 49 ∷ 50 ∷ 51 ∷ 52 ∷ 53 ∷ 54 ∷ 55 ∷ 56 ∷ 57 ∷ 97 ∷ 98 ∷ 99 ∷ 100 ∷ 101 ∷ 102 ∷ []
unfolding digit
digits_are = refl
