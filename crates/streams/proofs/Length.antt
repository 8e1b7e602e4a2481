-- The length of the update is the paper's formula, that of the redraw is 4 + 9 · (W + 3); no update is longer than the nine pages
-- of a redraw, and an update is empty exactly if the pictures are the same. Page by page: a page's group is its runs and one page
-- byte.
-- Assumes nothing.
use Prim.Native.Nat.{ℕ, zero, suc, ◌+◌, ◌*◌, ◌≤◌, ◌<◌, min}
use mathlib.Core.Path.{◌≡◌, refl, sym, ◌∙◌, ap}
use mathlib.Core.Bool.{Bool, true, false}
use mathlib.Core.Option.{Option, none, some}
use mathlib.Core.List.{List, [], ◌∷◌, map}
use native.Mathlib.Omega.{arith}
use lib.ListN.{length, length-append}
use lib.Seq.{take_all}
use lib.Dec.{eqb}
use borrow.Author.Tests.{eqb-true}
use Rattle.paper.proofs.Cases.{split, less}
use Rattle.streams.specs.Picture.{Same, differs}
use Rattle.streams.specs.Stretch.{Place, end_of, on_it, emit, after}
use Rattle.streams.specs.Update.{Run, runs, stretch_of, page_work, work_from, update, update_stream}
use Rattle.streams.specs.Length.{differing, page_length, length_from, update_length}
use Rattle.streams.specs.Redraw.{whole_page, whole_pages, redraw, redraw_stream}
use Rattle.streams.proofs.Pictures.{same_nowhere, nowhere_same}
use Rattle.streams.proofs.Cost.{weight, page_length_most, runs_cost}
use Rattle.streams.proofs.Emitting.{address_on, address_off, on_same, Under, under_off, under_next, emit_nil, emit_append, cons_length}
use Rattle.streams.proofs.Painting.{wanted_bytes_length}

-- ---- a page on which nothing differs

differing_none : (d : ℕ → Bool) (c n : ℕ) → ((k : ℕ) → k < c + n → d k ≡ false) → differing d c n ≡ 0
unfolding differing
differing_none d c zero h = refl
differing_none d c (suc n) h = rw (h c (omega arith)) (omega (arith, differing_none d (suc c) n (λ k l. h k (omega arith))))

pub none_differing : (d : ℕ → Bool) (c n k : ℕ) → differing d c n ≡ 0 → c ≤ k → k < c + n → d k ≡ false
unfolding differing
none_differing d c zero k e a b = absurd (omega arith)
none_differing d c (suc n) k e a b = split (d c)
    (λ t. absurd (omega (arith, rw t at e)))
    (λ t. less c k
    (λ h. none_differing d (suc c) n k (omega (arith, rw t at e)) h (omega arith))
    (λ h. let i : k ≡ c = omega arith in rw i t))

pub page_length_none : (d : ℕ → Bool) (n : ℕ) → ((k : ℕ) → k < n → d k ≡ false) → page_length d n ≡ 0
unfolding page_length
page_length_none d n h = rw (differing_none d 0 n (λ k l. h k (omega arith)))

pub none_page_length : (d : ℕ → Bool) (n k : ℕ) → page_length d n ≡ 0 → k < n → d k ≡ false
unfolding page_length
none_page_length d n k e h = split (eqb (differing d 0 n) 0)
    (λ t. none_differing d 0 n k (eqb-true (differing d 0 n) 0 t) (omega arith) (omega arith))
    (λ t. absurd (omega (arith, rw t at e)))

module _ (W : ℕ) where
  -- ---- a page's runs, from a place on that page and from below it

  cost_on : (w : List ℕ) (p : ℕ) (before : Option Place) (rs : List Run) → on_it before p ≡ true → length (emit before (map (stretch_of W w p) rs)) ≡ weight rs
  unfolding stretch_of weight
  cost_on w p before [] u = ap length (emit_nil before)
  cost_on w p before (r ∷ rs) u =
      let x = stretch_of W w p r in
      omega (
        arith,
        cons_length before x (map (stretch_of W w p) rs),
        ap length (address_on before x u),
        wanted_bytes_length W w p r.start r.size,
        cost_on w p (some (end_of x)) rs (on_same (end_of x) p refl),
      )

  cost_page : (w : List ℕ) (before : Option Place) (p : ℕ) (rs : List Run) → Under before p
      → length (emit before (map (stretch_of W w p) rs)) ≡ min 1 (weight rs) + weight rs
  unfolding stretch_of weight
  cost_page w before p [] u = ap length (emit_nil before)
  cost_page w before p (r ∷ rs) u =
      let x = stretch_of W w p r in
      omega (
        arith,
        cons_length before x (map (stretch_of W w p) rs),
        ap length (address_off before x (under_off before p u)),
        wanted_bytes_length W w p r.start r.size,
        cost_on w p (some (end_of x)) rs (on_same (end_of x) p refl),
      )

  after_runs : (w : List ℕ) (before : Option Place) (p : ℕ) (rs : List Run) → Under before (suc p) → Under (after before (map (stretch_of W w p) rs)) (suc p)
  unfolding after stretch_of
  after_runs w before p [] u = u
  after_runs w before p (r ∷ rs) u = after_runs w (some (end_of (stretch_of W w p r))) p rs (omega arith)

  -- ---- page by page

  module _ (r w : List ℕ) where
    -- a page's work, from below the page, is as long as the formula says
    pub page_length_lem : (before : Option Place) (p : ℕ) → Under before p → length (emit before (page_work W r w p)) ≡ page_length (differs W r w p) W
    unfolding page_work
    page_length_lem before p u = cost_page w before p (runs (differs W r w p) 0 W) u ∙ runs_cost (differs W r w p) W

    -- and leaves the chip below the next page
    pub page_under : (before : Option Place) (p : ℕ) → Under before p → Under (after before (page_work W r w p)) (suc p)
    unfolding page_work
    page_under before p u = after_runs w before p (runs (differs W r w p) 0 W) (under_next before p u)

    cost_from : (before : Option Place) (p n : ℕ) → Under before p → length (emit before (work_from W r w p n)) ≡ length_from W r w p n
    unfolding work_from length_from
    cost_from before p zero u = ap length (emit_nil before)
    cost_from before p (suc n) u =
        let xs = page_work W r w p in
        let ys = work_from W r w (suc p) n in
        rw (emit_append before xs ys) (omega (
          arith,
          length-append (emit before xs) (emit (after before xs) ys),
          page_length_lem before p u,
          cost_from (after before xs) (suc p) n (page_under before p u),
        ))

  -- ---- the update

  pub update_length_lem : (r w : List ℕ) → length (update_stream W r w) ≡ update_length W r w
  unfolding update_stream update update_length
  update_length_lem r w = cost_from r w none 0 9 tt

  pub length_from_most : (r w : List ℕ) (p n : ℕ) → length_from W r w p n ≤ n * (W + 3)
  unfolding length_from
  length_from_most r w p zero = omega arith
  length_from_most r w p (suc n) = omega (arith, page_length_most (differs W r w p) W, length_from_most r w (suc p) n)

  pub update_most : (r w : List ℕ) → update_length W r w ≤ 9 * (W + 3)
  unfolding update_length
  update_most r w = length_from_most r w 0 9

  -- ---- no byte exactly if the pictures are the same

  from_none : (r w : List ℕ) (p n : ℕ) → ((q c : ℕ) → q < p + n → c < W → differs W r w q c ≡ false) → length_from W r w p n ≡ 0
  unfolding length_from
  from_none r w p zero h = refl
  from_none r w p (suc n) h =
      omega (arith, page_length_none (differs W r w p) W (λ k l. h p k (omega arith) l), from_none r w (suc p) n (λ q c l. h q c (omega arith)))

  none_from : (r w : List ℕ) (p n q c : ℕ) → length_from W r w p n ≡ 0 → p ≤ q → q < p + n → c < W → differs W r w q c ≡ false
  unfolding length_from
  none_from r w p zero q c e a b hc = absurd (omega arith)
  none_from r w p (suc n) q c e a b hc = less p q
      (λ h. none_from r w (suc p) n q c (omega arith) h (omega arith) hc)
      (λ h. let i : p ≡ q = omega arith in rw (← i) (none_page_length (differs W r w p) W c (omega arith) hc))

  pub same_length : (r w : List ℕ) → Same W r w → update_length W r w ≡ 0
  unfolding update_length
  same_length r w h = from_none r w 0 9 (λ q c l hc. same_nowhere W r w h q c (omega arith) hc)

  pub update_none : (r w : List ℕ) → Same W r w → update_stream W r w ≡ []
  update_none r w h = sym (take_all 0 (update_stream W r w) (omega (arith, update_length_lem r w, same_length r w h)))

  pub none_same : (r w : List ℕ) → update_length W r w ≡ 0 → Same W r w
  unfolding update_length
  none_same r w e = nowhere_same W r w (λ p c hp hc. none_from r w 0 9 p c e (omega arith) (omega arith) hc)

  -- ---- the redraw

  cost_whole : (w : List ℕ) (before : Option Place) (p n : ℕ) → Under before p → length (emit before (whole_pages W w p n)) ≡ n * (W + 3)
  unfolding whole_pages whole_page
  cost_whole w before p zero u = omega (arith, ap length (emit_nil before))
  cost_whole w before p (suc n) u =
      let x = whole_page W w p in
      omega (
        arith,
        cons_length before x (whole_pages W w (suc p) n),
        ap length (address_off before x (under_off before p u)),
        wanted_bytes_length W w p 0 W,
        cost_whole w (some (end_of x)) (suc p) n (omega arith),
      )

  pub redraw_length : (w : List ℕ) (contrast : ℕ) → length (redraw_stream W w contrast) ≡ 4 + 9 * (W + 3)
  unfolding redraw_stream redraw
  redraw_length w contrast = omega (arith, cost_whole w none 0 9 tt)
