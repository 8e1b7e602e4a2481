-- Internal: the update as one walk over the columns, left to right, in the form that a loop writes it. It carries the chip's own
-- counter. `proofs/Walking.antt` shows that it is the update's stream.
-- Assumes nothing.
use Rattle.std.specs.Prelude.{ℕ, zero, suc, ◌-◌, Bool, true, false, cond, ◌||◌, List, [], ◌∷◌, ◌++◌, map}
use Rattle.controller.specs.Run.{BusCycle}
use Rattle.controller.specs.Chip.{page_cycle, data_cycle}
use Rattle.streams.specs.Picture.{shown, differs}
use Rattle.streams.specs.Stretch.{column_bytes}
use Rattle.streams.specs.Update.{joins, wanted_bytes}

-- what goes ahead of the byte of a differing column c. `sent`: this page's byte is out, and `next` is the column after the last byte
unfoldable pub lead : ℕ → List ℕ → ℕ → Bool → ℕ → ℕ → List BusCycle
lead W wanted p sent next c = cond sent
    (cond (joins next c) (map data_cycle (wanted_bytes W wanted p next (c - next))) (column_bytes c))
    (page_cycle p ∷ column_bytes c)

-- that, and the byte
unfoldable pub piece : ℕ → List ℕ → ℕ → Bool → ℕ → ℕ → List BusCycle
piece W wanted p sent next c = lead W wanted p sent next c ++ (data_cycle (shown W wanted p c) ∷ [])

-- nothing for an equal column
unfoldable pub piece_if : Bool → ℕ → List ℕ → ℕ → Bool → ℕ → ℕ → List BusCycle
piece_if true W wanted p sent next c = piece W wanted p sent next c
piece_if false W wanted p sent next c = []

-- the n columns from c on; `d` says which differ
unfoldable pub walk : ℕ → List ℕ → ℕ → (ℕ → Bool) → Bool → ℕ → ℕ → ℕ → List BusCycle
walk W wanted p d sent next c zero = []
walk W wanted p d sent next c (suc n) =
    piece_if (d c) W wanted p sent next c ++ walk W wanted p d (d c || sent) (cond (d c) (suc c) next) (suc c) n

-- the n pages from p on, each from column 0
unfoldable pub walk_pages : ℕ → List ℕ → List ℕ → ℕ → ℕ → List BusCycle
walk_pages W recorded wanted p zero = []
walk_pages W recorded wanted p (suc n) =
    walk W wanted p (differs W recorded wanted p) false 0 0 W ++ walk_pages W recorded wanted (suc p) n
