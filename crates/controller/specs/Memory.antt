-- Display memory: nine pages of w columns, byte w · page + column. On page 8 only bit 0 exists.
-- Assumes nothing.
use Rattle.std.specs.Prelude.{ℕ, ◌+◌, ◌*◌, ◌%◌, Bool, cond, ◌&&◌, List, get_or, set, ltb, eqb}

-- a byte as page p holds it and shows it: on page 8 only bit 0 exists, other bits are read as 0
unfoldable pub cell_of : ℕ → ℕ → ℕ
cell_of p v = cond (eqb p 8) (v % 2) v

-- there is a cell at page p, column c
unfoldable pub is_cell : ℕ → ℕ → ℕ → Bool
is_cell w p c = ltb p 9 && ltb c w

-- the memory after a data write: stored if there is such a cell, otherwise nothing is stored
unfoldable pub stored : ℕ → List ℕ → ℕ → ℕ → ℕ → List ℕ
stored w m p c v = cond (is_cell w p c) (set m (w * p + c) (cell_of p v)) m

-- the byte that a data read loads: 0 if there is no such cell
unfoldable pub loaded : ℕ → List ℕ → ℕ → ℕ → ℕ
loaded w m p c = cond (is_cell w p c) (cell_of p (get_or m (w * p + c) 0)) 0

-- the column after a data cycle: 1 more below the width, and nothing from the width up. Page plays no part
unfoldable pub advanced : ℕ → ℕ → ℕ
advanced w c = cond (ltb c w) (c + 1) c
