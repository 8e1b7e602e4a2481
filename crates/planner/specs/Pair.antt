-- Internal: what the inner functions say of the pictures that they are given.
-- Assumes nothing.
use Rattle.std.specs.Prelude.{ℕ, ◌≡◌, Bool, false, ◌||◌, List}
use Rattle.controller.specs.Run.{BusCycle}
use Rattle.streams.specs.Picture.{differs}
use Rattle.streams.specs.Walk.{walk}
use Rattle.planner.specs.Pictures.{misfit}
use Rattle.planner.specs.declared.picture.Picture.{Picture}
use Rattle.planner.specs.declared.picture.Pair.{Pair}

-- x is the picture that these bytes are, and it fits
pub record PictureOf (W : ℕ) (a : List ℕ) (x : Picture) : Type 0 where
  pub fit : misfit W a ≡ false
  pub width : x.width ≡ W
  pub bytes : x.bytes.now ≡ a

-- x is the pair that these bytes are, and both fit
pub record PairOf (W : ℕ) (recorded wanted : List ℕ) (x : Pair) : Type 0 where
  pub fit : (misfit W recorded || misfit W wanted) ≡ false
  pub width : x.wanted.width ≡ W
  pub recorded_is : x.recorded.now ≡ recorded
  pub wanted_is : x.wanted.bytes.now ≡ wanted

-- the two pictures differ at a page and a column
abbrev pub apart : Pair → ℕ → ℕ → Bool
apart x p = differs x.wanted.width x.recorded.now x.wanted.bytes.now p

-- what page p of an update sends
abbrev pub page_walk : Pair → ℕ → List BusCycle
page_walk x p = walk x.wanted.width x.wanted.bytes.now p (apart x p) false 0 0 x.wanted.width
