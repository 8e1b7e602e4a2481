-- How many of a loop's turns are left: one fewer after each, and none at the end.
-- Assumes nothing.
use Prim.Native.Nat.{ℕ, suc, ◌+◌, ◌-◌, ◌≤◌, ◌<◌}
use mathlib.Core.Path.{◌≡◌}
use native.Mathlib.Omega.{arith}

pub one_fewer : (i n : ℕ) → i < n → n - i ≡ suc (n - (i + 1))
one_fewer i n h = omega arith

pub none_left : (i n : ℕ) → n ≤ i → n - i ≡ 0
none_left i n h = omega arith
