-- Pictures of nine pages of W columns: what they show, and where two of them differ.
-- Assumes nothing.
use Rattle.std.specs.Prelude.{ℕ, ◌+◌, ◌*◌, ◌≤◌, ◌<◌, ◌≡◌, ◌⊎◌, Bool, not, List, get_or, eqb}
use Rattle.controller.specs.Memory.{cell_of}

-- what a picture shows at page p, column c
unfoldable pub shown : ℕ → List ℕ → ℕ → ℕ → ℕ
shown W a p c = cell_of p (get_or a (W * p + c) 0)

-- two pictures are the same when pages 0 to 7 agree byte for byte and page 8 agrees in bit 0
unfoldable pub Same : ℕ → List ℕ → List ℕ → Type 0
Same W a b = (p c : ℕ) → p ≤ 8 → c < W → shown W a p c ≡ shown W b p c

-- every memory byte shows its recorded or its wanted value
unfoldable pub Between : ℕ → List ℕ → List ℕ → List ℕ → Type 0
Between W recorded wanted m = (p c : ℕ) → p ≤ 8 → c < W → (shown W m p c ≡ shown W recorded p c) ⊎ (shown W m p c ≡ shown W wanted p c)

-- the two pictures differ at page p, column c
unfoldable pub differs : ℕ → List ℕ → List ℕ → ℕ → ℕ → Bool
differs W recorded wanted p c = not (eqb (shown W recorded p c) (shown W wanted p c))
