-- A frame as characters.
-- Assumes nothing.
use Rattle.std.specs.Prelude.{ℕ, ◌+◌, ◌*◌, ◌/◌, ◌%◌, cond, List, get_or}
use Rattle.glass.specs.Bit.{bit_of}

-- the character of row k under segment s: a frame has a picture's layout, with rows for lines and segments for columns
unfoldable pub glyph : List ℕ → ℕ → ℕ → ℕ → ℕ → ℕ
glyph frame k s lit dark = cond (bit_of (get_or frame (132 * (k / 8) + s) 0) (k % 8)) lit dark
