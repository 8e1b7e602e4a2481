-- What a list of stretches leaves in the memory, and where it leaves the chip.
-- Assumes nothing.
use Rattle.std.specs.Prelude.{ℕ, suc, List, [], ◌∷◌}
use Rattle.controller.specs.Memory.{stored}
use Rattle.controller.specs.Chip.{View}
use Rattle.streams.specs.Stretch.{Stretch, end_of}

-- bytes stored on page p, from column c on
unfoldable pub store_all : ℕ → List ℕ → ℕ → ℕ → List ℕ → List ℕ
store_all W m p c [] = m
store_all W m p c (b ∷ bs) = store_all W (stored W m p c b) p (suc c) bs

-- the memory after a list of stretches
unfoldable pub paint : ℕ → List ℕ → List Stretch → List ℕ
paint W m [] = m
paint W m (x ∷ xs) = paint W (store_all W m x.page x.start x.content) xs

-- the last of some bytes, or h where there is none: what the holder is after they are written
unfoldable pub last_of : ℕ → List ℕ → ℕ
last_of h [] = h
last_of h (b ∷ bs) = last_of b bs

-- the view after one stretch, and after a list of them
unfoldable pub drawn : {R : Type 0} → ℕ → View R → Stretch → View R
drawn W v x = record {
  page = x.page;
  column = (end_of x).column;
  holder = last_of v.holder x.content;
  memory = store_all W v.memory x.page x.start x.content;
  rest = v.rest;
}

unfoldable pub drawn_all : {R : Type 0} → ℕ → View R → List Stretch → View R
drawn_all W v [] = v
drawn_all W v (x ∷ xs) = drawn_all W (drawn W v x) xs
