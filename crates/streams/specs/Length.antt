-- The update's length, by the paper's formula: the sum, over pages that differ, of 3 + differing columns + min(gap, 2) for each
-- gap of equal columns between two differing ones.
-- Assumes nothing.
use Rattle.std.specs.Prelude.{ℕ, zero, suc, ◌+◌, min, Bool, false, cond, ◌&&◌, ◌||◌, List, [], ◌∷◌, ◌++◌, eqb}
use Rattle.streams.specs.Picture.{differs}

-- how many of the n columns from c on differ
unfoldable pub differing : (ℕ → Bool) → ℕ → ℕ → ℕ
differing d c zero = 0
differing d c (suc n) = cond (d c) 1 0 + differing d (suc c) n

-- the gaps between two differing columns, among the n columns from c on; `seen` says that one differed before c, and g equal
-- columns have come since
unfoldable pub gaps : (ℕ → Bool) → Bool → ℕ → ℕ → ℕ → List ℕ
gaps d seen g c zero = []
gaps d seen g c (suc n) = cond (d c && seen) (g ∷ []) [] ++ gaps d (d c || seen) (cond (d c) 0 (suc g)) (suc c) n

-- min(gap, 2) for each gap
unfoldable pub gap_cost : List ℕ → ℕ
gap_cost [] = 0
gap_cost (g ∷ gs) = min g 2 + gap_cost gs

-- a page of W columns: nothing where none differs
unfoldable pub page_length : (ℕ → Bool) → ℕ → ℕ
page_length d W = cond (eqb (differing d 0 W) 0) 0 (3 + differing d 0 W + gap_cost (gaps d false 0 0 W))

-- the n pages from p on
unfoldable pub length_from : ℕ → List ℕ → List ℕ → ℕ → ℕ → ℕ
length_from W recorded wanted p zero = 0
length_from W recorded wanted p (suc n) = page_length (differs W recorded wanted p) W + length_from W recorded wanted (suc p) n

unfoldable pub update_length : ℕ → List ℕ → List ℕ → ℕ
update_length W recorded wanted = length_from W recorded wanted 0 9
