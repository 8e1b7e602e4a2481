-- What a reader may want to know of the streams: how the update's stretches lie, that each page is a group of its own, and the
-- redraw's groups byte by byte.
-- Assumes nothing.
use Rattle.std.specs.Prelude.{ℕ, zero, suc, ◌+◌, ◌*◌, ◌%◌, ◌≤◌, ◌<◌, ◌≡◌, Bool, true, false, List, [], ◌∷◌, ◌++◌, map, get_or}
use Rattle.std.proofs.Math.Option.{none}
use Rattle.paper.specs.Listed.{listed}
use Rattle.controller.specs.Run.{BusCycle}
use Rattle.streams.specs.Stretch.{emit}
use Rattle.streams.specs.Update.{Run, page_work}

-- no column from a to b - 1 differs
abbrev pub Equal : (ℕ → Bool) → ℕ → ℕ → Type 0
Equal d a b = (k : ℕ) → a ≤ k → k < b → d k ≡ false

-- a run, the first from column c on
pub record Edge (d : ℕ → Bool) (c : ℕ) (r : Run) : Type 0 where
  pub rises : c ≤ r.start
  pub filled : 1 ≤ r.size
  -- all before it is equal
  pub equal : Equal d c r.start
  -- it begins and ends on a differing column
  pub first : d r.start ≡ true
  pub last : (k : ℕ) → suc k ≡ r.start + r.size → d k ≡ true

-- the first run starts at column b or after
abbrev pub Beyond : ℕ → List Run → Type 0
Beyond b [] = Unit {0}
Beyond b (r ∷ rs) = b ≤ r.start

-- from column c to e - 1: the runs begin and end on differing columns, rise, lie at least 3 columns apart, and all outside them is equal
abbrev pub Tidy : (ℕ → Bool) → ℕ → ℕ → List Run → Type 0
Tidy d c e [] = Equal d c e
Tidy d c e (r ∷ rs) = Edge d c r × Beyond (r.start + r.size + 3) rs × Tidy d (r.start + r.size) e rs

-- a page's group: its work as if nothing came before, so that it begins with its page byte
unfoldable pub group : ℕ → List ℕ → List ℕ → ℕ → List BusCycle
group W recorded wanted p = emit none (page_work W recorded wanted p)

-- the groups of the n pages from p on, one after the other
unfoldable pub groups : ℕ → List ℕ → List ℕ → ℕ → ℕ → List BusCycle
groups W recorded wanted p zero = []
groups W recorded wanted p (suc n) = group W recorded wanted p ++ groups W recorded wanted (suc p) n

-- a whole page of a redraw: its page byte, 10 and 00 for column 0, and its cells as data
abbrev pub page_group : ℕ → List ℕ → List BusCycle
page_group byte cells = (0, byte) ∷ (0, 0x10) ∷ (0, 0x00) ∷ map (λ v. (1, v)) cells

-- the W cells of page p as the picture holds them, and those of page 8 mod 2
abbrev pub page_cells : ℕ → List ℕ → ℕ → List ℕ
page_cells W wanted p = listed (λ c. get_or wanted (W * p + c) 0) 0 W

abbrev pub icon_cells : ℕ → List ℕ → List ℕ
icon_cells W wanted = listed (λ c. get_or wanted (W * 8 + c) 0 % 2) 0 W
