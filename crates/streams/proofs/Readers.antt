-- How the update's stretches lie: on each page they begin and end on differing columns, rise, lie at least 3 equal columns apart,
-- and everything outside them is equal. A column that joins a run ends it on the left; the rest of the run stays. And the stream is
-- its page groups, one after the other, since each is a walk of its own. The redraw's stream is these bytes in this order: its
-- definition computes to them.
-- Assumes nothing.
use Prim.Native.Nat.{ℕ, zero, suc, ◌+◌, ◌*◌, ◌-◌, ◌%◌}
use mathlib.Core.Path.{◌≡◌, refl, sym, ◌∙◌}
use mathlib.Core.Logic.{◌≢◌}
use mathlib.Core.Bool.{Bool, true, false}
use mathlib.Core.Option.{none}
use mathlib.Core.List.{List, [], ◌∷◌, ◌++◌, append-nil}
use native.Mathlib.Omega.{arith}
use lib.ListN.{get_or}
use Rattle.paper.specs.Listed.{listed}
use Rattle.paper.proofs.Cases.{split, less}
use Rattle.controller.proofs.Cells.{cell_icons, cell_whole}
use Rattle.streams.specs.Picture.{shown, differs}
use Rattle.streams.specs.Stretch.{on_it, address, emit_by}
use Rattle.streams.specs.Update.{Run, joins, join, join_if, runs, wanted_bytes, update_stream}
use Rattle.streams.specs.Redraw.{whole_page, whole_pages, redraw, redraw_stream}
use Rattle.streams.specs.Walk.{walk_pages}
use Rattle.streams.specs.Shape.{Equal, Edge, Tidy, group, groups, page_group, page_cells, icon_cells}
use Rattle.streams.proofs.Runs.{joins_far}
use Rattle.streams.proofs.Walking.{page_walk, update_walk}

module _ (d : ℕ → Bool) where
  equal_more : (c e : ℕ) → d c ≡ false → Equal d (suc c) e → Equal d c e
  equal_more c e t h k a b = less c k (λ l. h k l b) (λ l. let i : k ≡ c = omega arith in rw i t)

  -- an equal column more
  tidy_same : (c e : ℕ) (rs : List Run) → d c ≡ false → Tidy d (suc c) e rs → Tidy d c e rs
  tidy_same c e [] t h = equal_more c e t h
  tidy_same c e (r ∷ rs) t h =
      let g = h.0 in
      (record { rises = omega (arith, g.rises); filled = g.filled; equal = equal_more c r.start t g.equal; first = g.first; last = g.last }, h.1, h.2)

  -- a run of its own
  alone : (c : ℕ) → d c ≡ true → Edge d c (record { start = c; size = 1 })
  alone c t = record {
    rises = omega arith;
    filled = omega arith;
    equal = λ k a b. absurd (omega arith);
    first = t;
    last = λ k i. (let j : k ≡ c = omega arith in rw j t);
  }

  -- a differing column more
  tidy_join : (c e : ℕ) (rs : List Run) → d c ≡ true → Tidy d (suc c) e rs → Tidy d c e (join c rs)
  unfolding join
  tidy_join c e [] t h = (alone c t, tt, λ k a b. h k (omega arith) b)
  tidy_join c e (r ∷ rs) t h = split (joins (suc c) r.start)
      (λ u. let i : c + (r.start - c + r.size) ≡ r.start + r.size = omega (arith, h.0.rises) in
      rw u (
        record {
          rises = omega arith;
          filled = omega (arith, h.0.filled);
          equal = λ k a b. absurd (omega arith);
          first = t;
          last = λ k j. h.0.last k (omega arith);
        },
        rw i h.1,
        rw i h.2,
      ))
      (λ u. let i : c + 1 ≡ suc c = omega arith in rw u (alone c t, omega (arith, joins_far (suc c) r.start u), rw i h))

  runs_tidy : (c n e : ℕ) → c + n ≡ e → Tidy d c e (runs d c n)
  unfolding runs join_if
  runs_tidy c zero e i = λ k a b. absurd (omega arith)
  runs_tidy c (suc n) e i =
      let ih : Tidy d (suc c) e (runs d (suc c) n) = runs_tidy (suc c) n e (omega arith) in
      split (d c)
      (λ t. rw t (tidy_join c e (runs d (suc c) n) t ih))
      (λ t. rw t (tidy_same c e (runs d (suc c) n) t ih))

module _ (W : ℕ) (r w : List ℕ) where
  -- the runs of page p; its stretches are these, with the wanted bytes
  pub page_tidy : (p : ℕ) → Tidy (differs W r w p) 0 W (runs (differs W r w p) 0 W)
  page_tidy p = runs_tidy (differs W r w p) 0 W W (omega arith)

  groups_walk : (p n : ℕ) → groups W r w p n ≡ walk_pages W r w p n
  unfolding groups group walk_pages
  groups_walk p zero = refl
  groups_walk p (suc n) = rw (page_walk W r w none p tt, groups_walk (suc p) n)

  pub update_groups : update_stream W r w ≡ groups W r w 0 9
  update_groups = update_walk W r w ∙ sym (groups_walk 0 9)

-- ---- the redraw, byte by byte

module _ (W : ℕ) (w : List ℕ) where
  -- the bytes of a page are its cells: whole on pages 0 to 7, mod 2 on page 8
  whole_cells : (p : ℕ) → p ≢ 8 → (c n : ℕ) → wanted_bytes W w p c n ≡ listed (λ k. get_or w (W * p + k) 0) c n
  unfolding wanted_bytes shown
  whole_cells p h c zero = refl
  whole_cells p h c (suc n) = rw (cell_whole p (get_or w (W * p + c) 0) h, whole_cells p h (suc c) n)

  icon_cells_lem : (c n : ℕ) → wanted_bytes W w 8 c n ≡ listed (λ k. get_or w (W * 8 + k) 0 % 2) c n
  unfolding wanted_bytes shown
  icon_cells_lem c zero = refl
  icon_cells_lem c (suc n) = rw (cell_icons (get_or w (W * 8 + c) 0), icon_cells_lem (suc c) n)

  -- E3, AC, 81 and the contrast; then each page's byte, 10, 00 and its W cells as data
  pub redraw_bytes : (v : ℕ) → redraw_stream W w v ≡ (0, 0xe3) ∷ (0, 0xac) ∷ (0, 0x81) ∷ (0, v)
      ∷ (page_group 0xb0 (page_cells W w 0) ++ (page_group 0xb1 (page_cells W w 1) ++ (page_group 0xb2 (page_cells W w 2)
      ++ (page_group 0xb3 (page_cells W w 3) ++ (page_group 0xb4 (page_cells W w 4) ++ (page_group 0xb5 (page_cells W w 5)
      ++ (page_group 0xb6 (page_cells W w 6) ++ (page_group 0xb7 (page_cells W w 7) ++ page_group 0xb8 (icon_cells W w)))))))))
  unfolding redraw_stream redraw whole_pages whole_page emit_by address on_it
  redraw_bytes v =
      simp (
        whole_cells 0 (λ e. omega arith) 0 W,
        whole_cells 1 (λ e. omega arith) 0 W,
        whole_cells 2 (λ e. omega arith) 0 W,
        whole_cells 3 (λ e. omega arith) 0 W,
        whole_cells 4 (λ e. omega arith) 0 W,
        whole_cells 5 (λ e. omega arith) 0 W,
        whole_cells 6 (λ e. omega arith) 0 W,
        whole_cells 7 (λ e. omega arith) 0 W,
        icon_cells_lem 0 W,
        append-nil,
      )
