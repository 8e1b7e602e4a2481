-- What the calls on pictures promise in C, over the width W.
-- Assumes nothing.
use Rattle.std.specs.Prelude.{ℕ, List}
use Rattle.std.proofs.Math.Option.{Option, none, some}
use Rattle.paper.specs.Answers.{Through, same}
use Rattle.streams.specs.Stretch.{Place}
use Rattle.planner.specs.First.{told_found, IsFirst}
use Rattle.paper.specs.Told.{told}
use Rattle.planner.specs.Count.{IsLength}
use Rattle.planner.specs.Sent.{IsUpdate, IsRedraw}
use Rattle.planner.specs.Group.{IsGroup}

-- the three out-parameters of the first difference: found, page and column. Where there is none, page and column stay
abbrev pub place_out : ℕ × ℕ → Option Place → ℕ × ℕ × ℕ
place_out at (some x) = (1, x.page, x.column)
place_out at none = (0, at.0, at.1)

-- the planner's first difference: refused with 1
abbrev pub FirstOut : ℕ → List ℕ → List ℕ → ℕ × ℕ × ℕ → ℕ × ℕ × ℕ → ℕ → Type 0
FirstOut W recorded wanted out out' r = Through (IsFirst W recorded wanted) told_found (place_out (out.1, out.2)) out out' r

-- the update's length: refused with 1
abbrev pub LengthOut : ℕ → List ℕ → List ℕ → ℕ → ℕ → ℕ → Type 0
LengthOut W recorded wanted count count' r = Through (IsLength W recorded wanted) told same count count' r

-- the update, in both outputs: refused with 1, 5
abbrev pub UpdateOut : ℕ → List ℕ → List ℕ → List ℕ → List ℕ → ℕ → List ℕ → List ℕ → ℕ → ℕ → Type 0
UpdateOut W recorded wanted out kinds count out' kinds' count' r =
    Through (λ a. IsUpdate W recorded wanted out kinds a out' kinds') told same count count' r

-- one page's group, in both outputs: refused with 1, 6, 5
abbrev pub GroupOut : ℕ → List ℕ → List ℕ → ℕ → List ℕ → List ℕ → ℕ → List ℕ → List ℕ → ℕ → ℕ → Type 0
GroupOut W recorded wanted page out kinds count out' kinds' count' r =
    Through (λ a. IsGroup W recorded wanted page out kinds a out' kinds') told same count count' r

-- the redraw, in both outputs: refused with 1, 6, 5
abbrev pub RedrawOut : ℕ → List ℕ → ℕ → List ℕ → List ℕ → ℕ → List ℕ → List ℕ → ℕ → ℕ → Type 0
RedrawOut W wanted contrast out kinds count out' kinds' count' r =
    Through (λ a. IsRedraw W wanted contrast out kinds a out' kinds') told same count count' r
