-- One turn of each loop that writes: what the columns or pages left send is what this one sends, and then what the others send.
-- Assumes nothing.
use Prim.Native.Nat.{ℕ, ◌+◌, ◌-◌, ◌≤◌, ◌<◌}
use mathlib.Core.Path.{◌≡◌, ap, ◌∙◌}
use mathlib.Core.Bool.{Bool, true, false, cond, ◌||◌}
use mathlib.Core.List.{List, [], ◌∷◌, ◌++◌, map}
use native.Mathlib.Omega.{arith}
use Rattle.paper.proofs.Cases.{split}
use Rattle.controller.specs.Chip.{page_cycle, data_cycle}
use Rattle.streams.specs.Stretch.{column_bytes}
use Rattle.streams.specs.Picture.{shown, differs}
use Rattle.streams.specs.Update.{wanted_bytes}
use Rattle.streams.specs.Walk.{lead, walk}
use Rattle.streams.proofs.Walking.{wanted_bytes_next, wanted_bytes_end, piece_is, walk_same, walk_differs}
use Rattle.streams.proofs.Equal.{equal_passed}
use Rattle.planner.specs.Equal.{Past}
use Rattle.planner.specs.Output.{Room, Wrote, column_piece, page_group}
use Rattle.planner.proofs.Writing.{room_first, room_second, wrote_both, wrote_none}

module _ (W : ℕ) (w : List ℕ) (p : ℕ) where
  -- one wanted byte
  pub wanted_next : (c to : ℕ) → c < to → map data_cycle (wanted_bytes W w p c (to - c))
      ≡ (data_cycle (shown W w p c) ∷ []) ++ map data_cycle (wanted_bytes W w p (c + 1) (to - (c + 1)))
  wanted_next c to h = ap (map data_cycle) (wanted_bytes_next W w p c to h)

  pub wanted_end : (c to : ℕ) → to ≤ c → map data_cycle (wanted_bytes W w p c (to - c)) ≡ []
  wanted_end c to h = ap (map data_cycle) (wanted_bytes_end W w p c to h)

module _ (W : ℕ) (r w : List ℕ) (p : ℕ) (sent : Bool) (next c : ℕ) where
  -- a differing column sends what goes ahead of it and its byte
  piece_yes : differs W r w p c ≡ true → column_piece W r w p sent next c ≡ lead W w p sent next c ++ (data_cycle (shown W w p c) ∷ [])
  unfolding column_piece
  piece_yes e = rw e (piece_is W w p sent next c)

  -- one column of the walk
  pub walk_next : c < W → walk W w p (differs W r w p) sent next c (W - c) ≡ column_piece W r w p sent next c
      ++ walk W w p (differs W r w p) (differs W r w p c || sent) (cond (differs W r w p c) (c + 1) next) (c + 1) (W - (c + 1))
  unfolding column_piece
  walk_next h = split (differs W r w p c)
      (λ t. rw t (walk_differs W w p (differs W r w p) sent next c h t))
      (λ t. rw t (walk_same W w p (differs W r w p) sent next c h t))

-- a differing column, with room for its piece: what goes ahead of it, then its byte b
module _ (W : ℕ) (r w : List ℕ) (p : ℕ) (sent : Bool) (next c : ℕ) (yes : differs W r w p c ≡ true)
    {out kinds : List ℕ} {at : ℕ} (room : Room (column_piece W r w p sent next c) out kinds at) where
  both : Room (lead W w p sent next c ++ (data_cycle (shown W w p c) ∷ [])) out kinds at
  both = rw (piece_yes W r w p sent next c yes) at room

  pub lead_room : Room (lead W w p sent next c) out kinds at
  lead_room = room_first (lead W w p sent next c) (data_cycle (shown W w p c) ∷ []) both

  module _ {out' kinds' : List ℕ} {n : ℕ} (led : Wrote (lead W w p sent next c) out kinds at out' kinds' n) (b : ℕ) (is : b ≡ shown W w p c) where
    pub byte_room : Room (data_cycle b ∷ []) out' kinds' n
    byte_room = rw is (room_second (lead W w p sent next c) (data_cycle (shown W w p c) ∷ []) both led)

    pub piece_wrote : {out'' kinds'' : List ℕ} {m : ℕ} → Wrote (data_cycle b ∷ []) out' kinds' n out'' kinds'' m
        → Wrote (column_piece W r w p sent next c) out kinds at out'' kinds'' m
    piece_wrote v =
        rw (piece_yes W r w p sent next c yes)
        (wrote_both (lead W w p sent next c) (data_cycle (shown W w p c) ∷ []) both led (rw is at v))

-- an equal column sends nothing
pub none_wrote : (W : ℕ) (r w : List ℕ) (p : ℕ) (sent : Bool) (next c : ℕ) → differs W r w p c ≡ false
    → (out kinds : List ℕ) (at : ℕ) → Wrote (column_piece W r w p sent next c) out kinds at out kinds at
unfolding column_piece
none_wrote W r w p sent next c e out kinds at = rw e (wrote_none out kinds at)

-- equal columns send nothing, however many
pub walk_passed : (W : ℕ) (w : List ℕ) (p : ℕ) (d : ℕ → Bool) (sent : Bool) (next c e : ℕ) → c < W → d c ≡ false → Past d W (c + 1) e
    → walk W w p d sent next c (W - c) ≡ walk W w p d sent next e (W - e)
walk_passed W w p d sent next c e h t past =
    walk_same W w p d sent next c h t
    ∙ equal_passed (λ (k : ℕ). walk W w p d sent next k (W - k)) d W (λ k. walk_same W w p d sent next k) (c + 1) e past.0 past.1 past.2

-- a whole page, with room for its group: its address, then its bytes
module _ (W : ℕ) (w : List ℕ) (p : ℕ) {out kinds : List ℕ} {at : ℕ} (room : Room (page_group W w p) out kinds at) where
  all : W - 0 ≡ W
  all = omega arith

  pub address_room : Room (page_cycle p ∷ column_bytes 0) out kinds at
  address_room = room_first (page_cycle p ∷ column_bytes 0) (map data_cycle (wanted_bytes W w p 0 W)) room

  module _ {out' kinds' : List ℕ} {n : ℕ} (addressed : Wrote (page_cycle p ∷ column_bytes 0) out kinds at out' kinds' n) where
    pub bytes_room : Room (map data_cycle (wanted_bytes W w p 0 (W - 0))) out' kinds' n
    bytes_room = rw all (room_second (page_cycle p ∷ column_bytes 0) (map data_cycle (wanted_bytes W w p 0 W)) room addressed)

    pub group_wrote : {out'' kinds'' : List ℕ} {m : ℕ} → Wrote (map data_cycle (wanted_bytes W w p 0 (W - 0))) out' kinds' n out'' kinds'' m
        → Wrote (page_group W w p) out kinds at out'' kinds'' m
    group_wrote v = wrote_both (page_cycle p ∷ column_bytes 0) (map data_cycle (wanted_bytes W w p 0 W)) room addressed (rw all at v)

-- the column after the last byte stays inside the page
pub next_inside : (t : Bool) (W next c : ℕ) → c < W → next ≤ W → cond t (c + 1) next ≤ W
next_inside true W next c h l = omega arith
next_inside false W next c h l = l
