-- Which pictures a call takes, over the width W.
-- Assumes nothing.
use Rattle.std.specs.Prelude.{ℕ, ◌*◌, Bool, not, List, length, eqb}

-- a picture is not nine pages of W columns
unfoldable pub misfit : ℕ → List ℕ → Bool
misfit W a = not (eqb (length a) (9 * W))
