-- Internal: the length formula counted from the left, as a loop does. `proofs/Counting.antt` shows that it gives the formula.
-- Assumes nothing.
use Rattle.std.specs.Prelude.{ℕ, zero, suc, ◌+◌, ◌-◌, min, ◌≡◌, Bool, cond}

-- what the n columns from c on still cost, g equal columns after a differing one; where none differed before, g is 2, since a
-- stretch's two column bytes cost as much as such a gap
unfoldable pub to_pay : (ℕ → Bool) → ℕ → ℕ → ℕ → ℕ
to_pay d g c zero = 0
to_pay d g c (suc n) = cond (d c) (min g 2 + 1 + to_pay d 0 (suc c) n) (to_pay d (suc g) (suc c) n)

-- n bytes, the page byte not among them, are counted before column c, with g equal columns behind
unfoldable pub Counted : (ℕ → Bool) → ℕ → ℕ → ℕ → ℕ → Type 0
Counted d W n g c = n + to_pay d g c (W - c) ≡ to_pay d 2 0 W
