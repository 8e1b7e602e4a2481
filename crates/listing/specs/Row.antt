-- A row of the table of classes.
-- Assumes nothing.
use Rattle.std.specs.Prelude.{ℕ, ◌+◌, ◌≤◌, ◌<◌, ◌≡◌, ◌≢◌}
use Rattle.instructions.specs.Read.{class_of}

-- a row begins at a byte where the byte before it, if there is one, is of another class
abbrev pub Begins : ℕ → Type 0
Begins first = (b : ℕ) → b + 1 ≡ first → class_of b ≢ class_of first

-- all bytes from one through another are of one class
pub record Alike (first last : ℕ) : Type 0 where
  pub rising : first ≤ last
  pub same : (b : ℕ) → first ≤ b → b ≤ last → class_of b ≡ class_of first

-- a row: it begins there, its bytes are of one class, and the byte behind them, if there is one, is of another
pub record IsRow (first last : ℕ) : Type 0 where
  pub begins : Begins first
  pub alike : Alike first last
  pub ends : last < 255 → class_of (last + 1) ≢ class_of first
