-- The update's stream is one walk over the columns, left to right, page after page: the walk and the runs that are left send the
-- same bytes, column by column. Then the laws by which a loop follows the walk, with `W - c` columns or `9 - p` pages left, so that
-- no proof about code opens a definition.
-- Assumes nothing.
use Prim.Native.Nat.{ℕ, zero, suc, ◌+◌, ◌-◌, ◌≤◌, ◌<◌}
use mathlib.Core.Path.{◌≡◌, refl, sym, ◌∙◌, ap}
use mathlib.Core.Bool.{Bool, true, false}
use mathlib.Core.Option.{Option, none, some}
use mathlib.Core.List.{List, [], ◌∷◌, ◌++◌, map, map-append, append_assoc}
use native.Mathlib.Nat.{zero-add, add-zero, suc-add}
use native.Mathlib.Numerals.{add-one}
use native.Mathlib.Omega.{arith}
use lib.ListN.{length, length-map}
use Rattle.paper.proofs.Cases.{split}
use Rattle.paper.proofs.Left.{one_fewer, none_left}
use Rattle.controller.specs.Run.{BusCycle}
use Rattle.controller.specs.Chip.{page_cycle, data_cycle}
use Rattle.streams.specs.Picture.{shown, differs}
use Rattle.streams.specs.Stretch.{Place, end_of, column_bytes, emit_by, emit, after}
use Rattle.streams.specs.Update.{Run, joins, join, join_if, runs, wanted_bytes, stretch_of, page_work, work_from, update, update_stream}
use Rattle.streams.specs.Redraw.{whole_page, whole_pages, redraw, opening, redraw_stream}
use Rattle.streams.specs.Walk.{lead, piece, piece_if, walk, walk_pages}
use Rattle.streams.proofs.Runs.{joins_near, joins_far, joins_yes, joins_no, Fits, runs_fit}
use Rattle.streams.proofs.Emitting.{address_on, address_off, on_same, Under, under_off, emit_append, emit_place}
use Rattle.streams.proofs.Painting.{wanted_bytes_length}
use Rattle.streams.proofs.Length.{page_under}

module _ (W : ℕ) (w : List ℕ) (p : ℕ) where
  -- ---- the wanted bytes from column c to column `to`

  pub wanted_bytes_next : (c to : ℕ) → c < to → wanted_bytes W w p c (to - c) ≡ shown W w p c ∷ wanted_bytes W w p (c + 1) (to - (c + 1))
  unfolding wanted_bytes
  wanted_bytes_next c to h = rw (one_fewer c to h) (rw add-one)

  pub wanted_bytes_end : (c to : ℕ) → to ≤ c → wanted_bytes W w p c (to - c) ≡ []
  unfolding wanted_bytes
  wanted_bytes_end c to h = rw (none_left c to h)

  pub data_length : (c n : ℕ) → length (map data_cycle (wanted_bytes W w p c n)) ≡ n
  data_length c n = length-map (wanted_bytes W w p c n) data_cycle ∙ wanted_bytes_length W w p c n

  wanted_bytes_append : (c m n : ℕ) → wanted_bytes W w p c (m + n) ≡ wanted_bytes W w p c m ++ wanted_bytes W w p (c + m) n
  unfolding wanted_bytes
  wanted_bytes_append c zero n = rw (zero-add, add-zero)
  wanted_bytes_append c (suc m) n = rw (suc-add m n)
      (ap (λ (l : List ℕ). shown W w p c ∷ l)
      (wanted_bytes_append (suc c) m n ∙ ap (λ (k : ℕ). wanted_bytes W w p (suc c) m ++ wanted_bytes W w p k n) (omega arith)))

  data_through : (c s n : ℕ) → c ≤ s
      → map data_cycle (wanted_bytes W w p c (s - c + n)) ≡ map data_cycle (wanted_bytes W w p c (s - c)) ++ map data_cycle (wanted_bytes W w p s n)
  data_through c s n h =
      let e : c + (s - c) ≡ s = omega arith in
      ap (map data_cycle) (rw e at (wanted_bytes_append c (s - c) n)) ∙ map-append data_cycle (wanted_bytes W w p c (s - c)) (wanted_bytes W w p s n)

  -- ---- what goes ahead of a differing column's byte, and that byte

  -- this page's byte is out and at most 2 equal columns lie between: they are written through
  pub lead_near : (sent : Bool) (next c : ℕ) → sent ≡ true → c ≤ next + 2
      → lead W w p sent next c ≡ map data_cycle (wanted_bytes W w p next (c - next))
  unfolding lead
  lead_near sent next c s h = rw (s, joins_yes next c h)

  -- it is out and 3 or more lie between: a new stretch
  pub lead_far : (sent : Bool) (next c : ℕ) → sent ≡ true → next + 2 < c → lead W w p sent next c ≡ column_bytes c
  unfolding lead
  lead_far sent next c s h = rw (s, joins_no next c h)

  -- it is not out yet
  pub lead_new : (sent : Bool) (next c : ℕ) → sent ≡ false → lead W w p sent next c ≡ page_cycle p ∷ column_bytes c
  unfolding lead
  lead_new sent next c s = rw s

  pub piece_is : (sent : Bool) (next c : ℕ) → piece W w p sent next c ≡ lead W w p sent next c ++ (data_cycle (shown W w p c) ∷ [])
  unfolding piece
  piece_is sent next c = refl

  -- ---- the walk, column by column

  step_same : (d : ℕ → Bool) (sent : Bool) (next c n : ℕ) → d c ≡ false → walk W w p d sent next c (suc n) ≡ walk W w p d sent next (suc c) n
  unfolding walk piece_if
  step_same d sent next c n e = rw e

  step_differs : (d : ℕ → Bool) (sent : Bool) (next c n : ℕ) → d c ≡ true
      → walk W w p d sent next c (suc n) ≡ piece W w p sent next c ++ walk W w p d true (suc c) (suc c) n
  unfolding walk piece_if
  step_differs d sent next c n e = rw e

  module _ (d : ℕ → Bool) (sent : Bool) (next c : ℕ) where
    -- an equal column sends nothing
    pub walk_same : c < W → d c ≡ false → walk W w p d sent next c (W - c) ≡ walk W w p d sent next (c + 1) (W - (c + 1))
    walk_same h e = rw (one_fewer c W h) (step_same d sent next c (W - (c + 1)) e ∙ rw add-one)

    -- a differing column sends its piece
    pub walk_differs : c < W → d c ≡ true
        → walk W w p d sent next c (W - c) ≡ piece W w p sent next c ++ walk W w p d true (c + 1) (c + 1) (W - (c + 1))
    walk_differs h e = rw (one_fewer c W h) (step_differs d sent next c (W - (c + 1)) e ∙ rw add-one)

    pub walk_end : W ≤ c → walk W w p d sent next c (W - c) ≡ []
    unfolding walk
    walk_end h = rw (none_left c W h)

  -- ---- the walk is the page's runs, sent

  -- the runs after one on this page
  later : List Run → List BusCycle
  later rs = emit (some (record { page = p; column = 0 })) (map (stretch_of W w p) rs)

  -- the runs that are left, where the walk stands
  resume : Bool → ℕ → List Run → List BusCycle
  resume sent next [] = []
  resume sent next (r ∷ rs) = lead W w p sent next r.start ++ (map data_cycle (wanted_bytes W w p r.start r.size) ++ later rs)

  later_cons : (r : Run) (rs : List Run)
      → later (r ∷ rs) ≡ column_bytes r.start ++ (map data_cycle (wanted_bytes W w p r.start r.size) ++ later rs)
  unfolding later emit_by stretch_of
  later_cons r rs =
      let l : Place = record { page = p; column = 0 } in
      rw (address_on (some l) (stretch_of W w p r) (on_same l p refl), emit_place (end_of (stretch_of W w p r)) l (map (stretch_of W w p) rs) refl)

  page_resume : (before : Option Place) (next : ℕ) (rs : List Run) → Under before p → emit before (map (stretch_of W w p) rs) ≡ resume false next rs
  unfolding emit_by resume later stretch_of
  page_resume before next [] u = refl
  page_resume before next (r ∷ rs) u =
      rw (
        address_off before (stretch_of W w p r) (under_off before p u),
        emit_place (end_of (stretch_of W w p r)) (record { page = p; column = 0 }) (map (stretch_of W w p) rs) refl,
        lead_new false next r.start refl,
      )

  resume_join : (sent : Bool) (next c e : ℕ) (rs : List Run) → Fits (suc c) e rs
      → resume sent next (join c rs) ≡ piece W w p sent next c ++ resume true (suc c) rs
  unfolding resume join later emit_by wanted_bytes piece
  resume_join sent next c e [] f = simp append_assoc
  resume_join sent next c e (r ∷ rs) f = split (joins (suc c) r.start)
      (λ t. let i : r.start - c + r.size ≡ suc (r.start - suc c + r.size) = omega arith in
      rw t (rw i (rw (
        lead_near true (suc c) r.start refl (joins_near (suc c) r.start t),
        data_through (suc c) r.start r.size f.0,
      ) (simp append_assoc))))
      (λ t. rw t (rw (lead_far true (suc c) r.start refl (joins_far (suc c) r.start t), later_cons r rs) (simp append_assoc)))

  walk_resume : (d : ℕ → Bool) (sent : Bool) (next c n : ℕ) → walk W w p d sent next c n ≡ resume sent next (runs d c n)
  unfolding walk runs join_if resume
  walk_resume d sent next c zero = refl
  walk_resume d sent next c (suc n) = split (d c)
      (λ t. step_differs d sent next c n t ∙ rw t
      (rw (walk_resume d true (suc c) (suc c) n)
      (sym (resume_join sent next c (suc c + n) (runs d (suc c) n) (runs_fit d (suc c) n (suc c + n) (omega arith))))))
      (λ t. step_same d sent next c n t ∙ rw t (walk_resume d sent next (suc c) n))

-- ---- page by page

module _ (W : ℕ) (r w : List ℕ) where
  -- a page's work is the walk over its columns from column 0 on, whatever page came before, if that was below
  pub page_walk : (before : Option Place) (p : ℕ) → Under before p
      → emit before (page_work W r w p) ≡ walk W w p (differs W r w p) false 0 0 W
  unfolding page_work
  page_walk before p u =
      page_resume W w p before 0 (runs (differs W r w p) 0 W) u ∙ sym (walk_resume W w p (differs W r w p) false 0 0 W)

  pages_walk : (before : Option Place) (p n : ℕ) → Under before p → emit before (work_from W r w p n) ≡ walk_pages W r w p n
  unfolding work_from walk_pages emit_by
  pages_walk before p zero u = refl
  pages_walk before p (suc n) u =
      rw (
        emit_append before (page_work W r w p) (work_from W r w (suc p) n),
        page_walk before p u,
        pages_walk (after before (page_work W r w p)) (suc p) n (page_under W r w before p u),
      )

  -- the whole update
  pub update_walk : update_stream W r w ≡ walk_pages W r w 0 9
  unfolding update_stream update
  update_walk = pages_walk none 0 9 tt

  pub walk_pages_next : (p : ℕ) → p < 9
      → walk_pages W r w p (9 - p) ≡ walk W w p (differs W r w p) false 0 0 W ++ walk_pages W r w (p + 1) (9 - (p + 1))
  unfolding walk_pages
  walk_pages_next p h = rw (one_fewer p 9 h) (rw add-one)

  pub walk_pages_end : (p : ℕ) → 9 ≤ p → walk_pages W r w p (9 - p) ≡ []
  unfolding walk_pages
  walk_pages_end p h = rw (none_left p 9 h)

-- ---- the redraw, page by page

module _ (W : ℕ) (w : List ℕ) where
  whole_again : (before : Option Place) (p n : ℕ) → Under before p → emit before (whole_pages W w p n) ≡ emit none (whole_pages W w p n)
  unfolding whole_pages whole_page emit_by
  whole_again before p zero u = refl
  whole_again before p (suc n) u =
      rw (address_off before (whole_page W w p) (under_off before p u), address_off none (whole_page W w p) (under_off none p tt))

  pub redraw_walk : (contrast : ℕ) → redraw_stream W w contrast ≡ opening contrast ++ emit none (whole_pages W w 0 9)
  unfolding redraw_stream redraw
  redraw_walk contrast = refl

  -- a whole page: its page byte, the column bytes of column 0, its data
  pub whole_pages_next : (p : ℕ) → p < 9 → emit none (whole_pages W w p (9 - p))
      ≡ (page_cycle p ∷ (column_bytes 0 ++ map data_cycle (wanted_bytes W w p 0 W))) ++ emit none (whole_pages W w (p + 1) (9 - (p + 1)))
  unfolding whole_pages whole_page emit_by
  whole_pages_next p h = rw (one_fewer p 9 h) (rw (
    address_off none (whole_page W w p) (under_off none p tt),
    whole_again (some (end_of (whole_page W w p))) (suc p) (9 - (p + 1)) (omega arith),
    add-one,
  ))

  pub whole_pages_end : (p : ℕ) → 9 ≤ p → emit none (whole_pages W w p (9 - p)) ≡ []
  unfolding whole_pages emit_by
  whole_pages_end p h = rw (none_left p 9 h)
