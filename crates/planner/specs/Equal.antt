-- Internal: getting past columns that do not differ.
-- Assumes nothing.
use Rattle.std.specs.Prelude.{ℕ, ◌≤◌, Bool}
use Rattle.streams.specs.Shape.{Equal}

-- of the W columns of a page, r is c or a later one, and none from c up to r differs; W itself is past them all
abbrev pub Past : (ℕ → Bool) → ℕ → ℕ → ℕ → Type 0
Past d W c r = (c ≤ r) × (r ≤ W) × Equal d c r
