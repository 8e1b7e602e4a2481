-- Internal: what the inner functions ask and say of themselves. A writer puts a list of bus cycles into both outputs at once.
-- Assumes nothing.
use Rattle.std.specs.Prelude.{ℕ, ◌+◌, ◌*◌, ◌≤◌, ◌≡◌, Bool, cond, ◌||◌, List, [], ◌∷◌, ◌++◌, map, length, take, drop, ltb}
use Rattle.controller.specs.Run.{BusCycle}
use Rattle.controller.specs.Chip.{page_cycle, data_cycle}
use Rattle.streams.specs.Picture.{differs}
use Rattle.streams.specs.Stretch.{column_bytes}
use Rattle.streams.specs.Update.{wanted_bytes}
use Rattle.streams.specs.Walk.{piece}
use Rattle.planner.specs.Sent.{kind_of, byte_of}

-- one picture that fits, and a width that the column counter reaches
pub record Fits (W : ℕ) (picture : List ℕ) : Type 0 where
  pub narrow : W ≤ 256
  pub long : length picture ≡ 9 * W

-- d with s put in from index at
unfoldable pub put : List ℕ → ℕ → List ℕ → List ℕ
put d at s = take at d ++ s ++ drop (at + length s) d

-- an output of a length is shorter than it needs to be
abbrev pub shorter : ℕ → ℕ → ℕ → Bool
shorter out kinds need = ltb out need || ltb kinds need

-- both outputs have room for s from index at
pub record Room (s : List BusCycle) (out kinds : List ℕ) (at : ℕ) : Type 0 where
  pub out_room : at + length s ≤ length out
  pub kinds_room : at + length s ≤ length kinds

-- s was put into both outputs from index at, and r is the index after it
pub record Wrote (s : List BusCycle) (out kinds : List ℕ) (at : ℕ) (out' kinds' : List ℕ) (r : ℕ) : Type 0 where
  pub ended : r ≡ at + length s
  pub out_is : out' ≡ put out at (map byte_of s)
  pub kinds_is : kinds' ≡ put kinds at (map kind_of s)

-- two instructions
abbrev pub two_cycles : ℕ → ℕ → List BusCycle
two_cycles first second = (0, first) ∷ (0, second) ∷ []

-- what column c of page p sends in the update's walk
unfoldable pub column_piece : ℕ → List ℕ → List ℕ → ℕ → Bool → ℕ → ℕ → List BusCycle
column_piece W recorded wanted p sent next c = cond (differs W recorded wanted p c) (piece W wanted p sent next c) []

-- page p of a redraw
abbrev pub page_group : ℕ → List ℕ → ℕ → List BusCycle
page_group W wanted p = page_cycle p ∷ (column_bytes 0 ++ map data_cycle (wanted_bytes W wanted p 0 W))
