-- The bits of a byte.
-- Assumes nothing.
use Rattle.std.specs.Prelude.{ℕ, zero, suc, ◌+◌, ◌/◌, ◌%◌, ◌^◌, Bool, cond, eqb}

-- bit b of a number
unfoldable pub bit_of : ℕ → ℕ → Bool
bit_of x b = eqb (x / 2 ^ b % 2) 1

-- the number whose n lowest bits are f's
unfoldable pub sum_of : (ℕ → Bool) → ℕ → ℕ
sum_of f zero = 0
sum_of f (suc n) = sum_of f n + cond (f n) (2 ^ n) 0
