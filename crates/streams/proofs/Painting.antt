-- What stretches leave in the memory: a cell that none of them covers keeps its byte, and a cell that one of wanted bytes covers
-- shows the wanted byte. So the update and the redraw paint the wanted picture: the update covers every cell that differs, the
-- redraw every cell.
-- Assumes nothing.
use Prim.Native.Nat.{ℕ, zero, suc, ◌+◌, ◌*◌, ◌≤◌, ◌<◌}
use mathlib.Core.Path.{◌≡◌, refl, sym, ◌∙◌, ap}
use mathlib.Core.Logic.{◌≢◌}
use mathlib.Core.Bool.{true, cond}
use mathlib.Core.List.{List, [], ◌∷◌, ◌++◌, map}
use native.Mathlib.Omega.{arith}
use lib.ListN.{length, get_or}
use lib.Dec.{eqb}
use borrow.Author.Tests.{eqb-true, eqb-false, eq-eqb, ne_eqb}
use Rattle.paper.proofs.Cases.{split, less}
use Rattle.controller.specs.Memory.{cell_of, stored}
use Rattle.controller.proofs.Cells.{place_one, stored_length, stored_other, stored_same}
use Rattle.streams.specs.Picture.{shown, Same, differs}
use Rattle.streams.specs.Stretch.{Stretch, OfKind}
use Rattle.streams.specs.Update.{Run, runs, wanted_bytes, stretch_of, page_work, work_from, update}
use Rattle.streams.specs.Redraw.{whole_page, whole_pages, redraw}
use Rattle.streams.specs.Paint.{store_all, paint}
use Rattle.streams.proofs.Pictures.{shown_is, shown_again, same_at, same_by, differs_false}
use Rattle.streams.proofs.Runs.{Fits, runs_fit, in_run, in_before, in_inside, in_after, hits, runs_cover}

-- ---- which columns of a page a list of stretches covers

abbrev pub run_of : Stretch → Run
run_of x = record { start = x.start; size = length x.content }

-- the runs that the stretches write on page p
unfoldable pub runs_on : ℕ → List Stretch → List Run
runs_on p [] = []
runs_on p (x ∷ xs) = cond (eqb x.page p) (run_of x ∷ runs_on p xs) (runs_on p xs)

pub hits_append : (q k : ℕ) (xs ys : List Stretch) → hits (runs_on q (xs ++ ys)) k ≡ hits (runs_on q xs) k + hits (runs_on q ys) k
unfolding runs_on hits
hits_append q k [] ys = omega arith
hits_append q k (x ∷ xs) ys = split (eqb x.page q)
    (λ t. rw t (omega (arith, hits_append q k xs ys)))
    (λ t. rw t (hits_append q k xs ys))

pub kind_append : (W : ℕ) (xs ys : List Stretch) → OfKind W xs → OfKind W ys → OfKind W (xs ++ ys)
kind_append W [] ys v u = u
kind_append W (x ∷ xs) ys v u = (v.0, v.1, v.2, kind_append W xs ys v.3 u)

module _ (W : ℕ) where
  -- ---- any stretches

  pub store_all_length : (m : List ℕ) (p c : ℕ) (bs : List ℕ) → length (store_all W m p c bs) ≡ length m
  unfolding store_all
  store_all_length m p c [] = refl
  store_all_length m p c (b ∷ bs) = store_all_length (stored W m p c b) p (suc c) bs ∙ stored_length W m p c b

  pub paint_length : (m : List ℕ) (xs : List Stretch) → length (paint W m xs) ≡ length m
  unfolding paint
  paint_length m [] = refl
  paint_length m (x ∷ xs) = paint_length (store_all W m x.page x.start x.content) xs ∙ store_all_length m x.page x.start x.content

  -- a byte that nothing goes to stays
  store_all_miss : (m : List ℕ) (p c : ℕ) (bs : List ℕ) (i : ℕ) → ((j : ℕ) → c ≤ j → j < c + length bs → i ≢ W * p + j)
      → get_or (store_all W m p c bs) i 0 ≡ get_or m i 0
  unfolding store_all
  store_all_miss m p c [] i off = refl
  store_all_miss m p c (b ∷ bs) i off =
      store_all_miss (stored W m p c b) p (suc c) bs i (λ j a l. off j (omega arith) (omega arith))
      ∙ stored_other W m p c b i (off c (omega arith) (omega arith))

  pub paint_miss : (m : List ℕ) (xs : List Stretch) (q k : ℕ) → OfKind W xs → k < W → hits (runs_on q xs) k ≡ 0
      → get_or (paint W m xs) (W * q + k) 0 ≡ get_or m (W * q + k) 0
  unfolding paint runs_on hits
  paint_miss m [] q k v h e = refl
  paint_miss m (x ∷ xs) q k v h e = split (eqb x.page q)
      (λ t. let s : in_run (run_of x) k + hits (runs_on q xs) k ≡ 0 = rw t at e in
      paint_miss (store_all W m x.page x.start x.content) xs q k v.3 h (omega arith)
      ∙ store_all_miss m x.page x.start x.content (W * q + k) (λ j a b i.
      let z = place_one W q x.page k j h (omega arith) i in
      omega (arith, in_inside (run_of x) k (omega (arith, z.1)) (omega (arith, z.1)))))
      (λ t. let s : hits (runs_on q xs) k ≡ 0 = rw t at e in
      paint_miss (store_all W m x.page x.start x.content) xs q k v.3 h s
      ∙ store_all_miss m x.page x.start x.content (W * q + k) (λ j a b i.
      eqb-false x.page q t (sym (place_one W q x.page k j h (omega arith) i).0)))

  -- ---- stretches of wanted bytes

  pub wanted_bytes_length : (w : List ℕ) (p c n : ℕ) → length (wanted_bytes W w p c n) ≡ n
  unfolding wanted_bytes
  wanted_bytes_length w p c zero = refl
  wanted_bytes_length w p c (suc n) = ap suc (wanted_bytes_length w p (suc c) n)

  -- each stretch's data are the wanted bytes of its place, on pages 0 to 8
  abbrev pub Wanted : List ℕ → List Stretch → Type 0
  Wanted w [] = Unit {0}
  Wanted w (x ∷ xs) = (x.page ≤ 8) × (x.content ≡ wanted_bytes W w x.page x.start (length x.content)) × Wanted w xs

  pub wanted_append : (w : List ℕ) (xs ys : List Stretch) → Wanted w xs → Wanted w ys → Wanted w (xs ++ ys)
  wanted_append w [] ys v u = u
  wanted_append w (x ∷ xs) ys v u = (v.0, v.1, wanted_append w xs ys v.2 u)

  store_all_hit : (w m : List ℕ) (p c n k : ℕ) → length m ≡ 9 * W → p ≤ 8 → c + n ≤ W → c ≤ k → k < c + n
      → get_or (store_all W m p c (wanted_bytes W w p c n)) (W * p + k) 0 ≡ shown W w p k
  unfolding store_all wanted_bytes
  store_all_hit w m p c zero k e hp hn a b = absurd (omega arith)
  store_all_hit w m p c (suc n) k e hp hn a b = less c k
      (λ h. store_all_hit w (stored W m p c (shown W w p c)) p (suc c) n k (stored_length W m p c (shown W w p c) ∙ e) hp (omega arith) h (omega arith))
      (λ h. let s : k ≡ c = omega arith in
      rw s (store_all_miss _ p (suc c) (wanted_bytes W w p (suc c) n) (W * p + c) (λ j x y z. omega arith)
      ∙ stored_same W m p c (shown W w p c) e (omega arith) (omega arith)
      ∙ shown_again W w p c))

  stretch_hit : (w m : List ℕ) (x : Stretch) (q k : ℕ) → length m ≡ 9 * W → x.page ≤ 8 → x.start + length x.content ≤ W
      → x.content ≡ wanted_bytes W w x.page x.start (length x.content) → x.page ≡ q → 1 ≤ in_run (run_of x) k
      → get_or (store_all W m x.page x.start x.content) (W * q + k) 0 ≡ shown W w q k
  stretch_hit w m x q k e hp hn d s h = less k x.start
      (λ l. absurd (omega (arith, in_before (run_of x) k l)))
      (λ l. less k (x.start + length x.content)
      (λ u. rw (← s) (rw d (store_all_hit w m x.page x.start (length x.content) k e hp hn l u)))
      (λ u. absurd (omega (arith, in_after (run_of x) k u))))

  pub paint_hit : (w m : List ℕ) (xs : List Stretch) (q k : ℕ) → length m ≡ 9 * W → OfKind W xs → Wanted w xs → k < W
      → 1 ≤ hits (runs_on q xs) k → get_or (paint W m xs) (W * q + k) 0 ≡ shown W w q k
  unfolding paint runs_on hits
  paint_hit w m [] q k e v d hk h = absurd (omega arith)
  paint_hit w m (x ∷ xs) q k e v d hk h = less 0 (hits (runs_on q xs) k)
      (λ l. paint_hit w (store_all W m x.page x.start x.content) xs q k (store_all_length m x.page x.start x.content ∙ e) v.3 d.2 hk l)
      (λ l. paint_miss _ xs q k v.3 hk (omega arith) ∙ split (eqb x.page q)
      (λ t. let s : 1 ≤ in_run (run_of x) k + hits (runs_on q xs) k = rw t at h in
      stretch_hit w m x q k e d.0 v.2 d.1 (eqb-true x.page q t) (omega arith))
      (λ t. let s : 1 ≤ hits (runs_on q xs) k = rw t at h in absurd (omega arith)))

  -- on the picture: a covered cell shows the wanted byte, any other what it showed
  pub shown_hit : (w m : List ℕ) (xs : List Stretch) (q k : ℕ) → length m ≡ 9 * W → OfKind W xs → Wanted w xs → k < W
      → 1 ≤ hits (runs_on q xs) k → shown W (paint W m xs) q k ≡ shown W w q k
  shown_hit w m xs q k e v d hk h =
      shown_is W (paint W m xs) q k ∙ ap (cell_of q) (paint_hit w m xs q k e v d hk h) ∙ shown_again W w q k

  pub shown_miss : (m : List ℕ) (xs : List Stretch) (q k : ℕ) → OfKind W xs → k < W → hits (runs_on q xs) k ≡ 0
      → shown W (paint W m xs) q k ≡ shown W m q k
  shown_miss m xs q k v h e = shown_is W (paint W m xs) q k ∙ ap (cell_of q) (paint_miss m xs q k v h e) ∙ sym (shown_is W m q k)

  -- ---- the update is such a list, and covers what differs

  pub page_kind : (w : List ℕ) (p c : ℕ) (rs : List Run) → p ≤ 8 → Fits c W rs → OfKind W (map (stretch_of W w p) rs)
  unfolding stretch_of
  page_kind w p c [] hp f = tt
  page_kind w p c (r ∷ rs) hp f =
      let e = wanted_bytes_length w p r.start r.size in
      (omega arith, omega arith, omega arith, page_kind w p (r.start + r.size) rs hp f.3)

  pub page_wanted : (w : List ℕ) (p : ℕ) (rs : List Run) → p ≤ 8 → Wanted w (map (stretch_of W w p) rs)
  unfolding stretch_of
  page_wanted w p [] hp = tt
  page_wanted w p (r ∷ rs) hp =
      (hp, ap (wanted_bytes W w p r.start) (sym (wanted_bytes_length w p r.start r.size)), page_wanted w p rs hp)

  pub page_hits : (w : List ℕ) (p k : ℕ) (rs : List Run) → hits (runs_on p (map (stretch_of W w p) rs)) k ≡ hits rs k
  unfolding stretch_of runs_on hits
  page_hits w p k [] = refl
  page_hits w p k (r ∷ rs) = rw (eq-eqb p p refl) (rw (wanted_bytes_length w p r.start r.size) (omega (arith, page_hits w p k rs)))

  -- on no other page
  pub page_misses : (w : List ℕ) (p q k : ℕ) (rs : List Run) → p ≢ q → hits (runs_on q (map (stretch_of W w p) rs)) k ≡ 0
  unfolding stretch_of runs_on hits
  page_misses w p q k [] h = refl
  page_misses w p q k (r ∷ rs) h = rw (ne_eqb p q h) (page_misses w p q k rs h)

  module _ (r w : List ℕ) where
    from_kind : (p n : ℕ) → p + n ≤ 9 → OfKind W (work_from W r w p n)
    unfolding work_from page_work
    from_kind p zero h = tt
    from_kind p (suc n) h =
        let rs = runs (differs W r w p) 0 W in
        kind_append W (map (stretch_of W w p) rs) (work_from W r w (suc p) n)
        (page_kind w p 0 rs (omega arith) (runs_fit (differs W r w p) 0 W W (omega arith))) (from_kind (suc p) n (omega arith))

    from_wanted : (p n : ℕ) → p + n ≤ 9 → Wanted w (work_from W r w p n)
    unfolding work_from page_work
    from_wanted p zero h = tt
    from_wanted p (suc n) h =
        let rs = runs (differs W r w p) 0 W in
        wanted_append w (map (stretch_of W w p) rs) (work_from W r w (suc p) n) (page_wanted w p rs (omega arith)) (from_wanted (suc p) n (omega arith))

    from_hits : (p n q k : ℕ) → p ≤ q → q < p + n → k < W → differs W r w q k ≡ true → 1 ≤ hits (runs_on q (work_from W r w p n)) k
    unfolding work_from page_work
    from_hits p zero q k a b hk t = absurd (omega arith)
    from_hits p (suc n) q k a b hk t =
        let rs = runs (differs W r w p) 0 W in
        let s = hits_append q k (map (stretch_of W w p) rs) (work_from W r w (suc p) n) in
        less p q
        (λ h. omega (arith, from_hits (suc p) n q k h (omega arith) hk t))
        (λ h. let e : p ≡ q = omega arith in
        rw (← e) (omega (
          arith,
          rw (← e) at s,
          page_hits w p k rs,
          runs_cover (differs W r w p) 0 W k (omega arith) (omega arith) (rw (← e) at t),
        )))

    pub update_kind : OfKind W (update W r w)
    unfolding update
    update_kind = from_kind 0 9 (omega arith)

    pub update_wanted : Wanted w (update W r w)
    unfolding update
    update_wanted = from_wanted 0 9 (omega arith)

    update_covers : (q k : ℕ) → q ≤ 8 → k < W → differs W r w q k ≡ true → 1 ≤ hits (runs_on q (update W r w)) k
    unfolding update
    update_covers q k hq hk t = from_hits 0 9 q k (omega arith) (omega arith) hk t

    -- the update paints the wanted picture
    pub update_paints : (m : List ℕ) → length m ≡ 9 * W → Same W m r → Same W (paint W m (update W r w)) w
    update_paints m e a = same_by W (paint W m (update W r w)) w (λ p c hp hc.
        less 0 (hits (runs_on p (update W r w)) c)
        (λ h. shown_hit w m (update W r w) p c e update_kind update_wanted hc h)
        (λ h. shown_miss m (update W r w) p c update_kind hc (omega arith) ∙ same_at W m r p c a hp hc ∙ split (differs W r w p c)
        (λ t. absurd (omega (arith, update_covers p c hp hc t)))
        (λ t. differs_false W r w p c t)))

  -- ---- the redraw is such a list, and covers everything

  whole_kind : (w : List ℕ) (p n : ℕ) → 1 ≤ W → p + n ≤ 9 → OfKind W (whole_pages W w p n)
  unfolding whole_pages whole_page
  whole_kind w p zero h l = tt
  whole_kind w p (suc n) h l =
      let e = wanted_bytes_length w p 0 W in
      (omega arith, omega arith, omega arith, whole_kind w (suc p) n h (omega arith))

  whole_wanted : (w : List ℕ) (p n : ℕ) → p + n ≤ 9 → Wanted w (whole_pages W w p n)
  unfolding whole_pages whole_page
  whole_wanted w p zero h = tt
  whole_wanted w p (suc n) h =
      (omega arith, ap (wanted_bytes W w p 0) (sym (wanted_bytes_length w p 0 W)), whole_wanted w (suc p) n (omega arith))

  whole_hits : (w : List ℕ) (p n q k : ℕ) → p ≤ q → q < p + n → k < W → 1 ≤ hits (runs_on q (whole_pages W w p n)) k
  unfolding whole_pages whole_page runs_on hits
  whole_hits w p zero q k a b hk = absurd (omega arith)
  whole_hits w p (suc n) q k a b hk =
      let e = wanted_bytes_length w p 0 W in
      split (eqb p q)
      (λ t. rw t (omega (arith, in_inside (record { start = 0; size = length (wanted_bytes W w p 0 W) }) k (omega arith) (omega arith))))
      (λ t. rw t (whole_hits w (suc p) n q k (omega (arith, eqb-false p q t)) (omega arith) hk))

  pub redraw_kind : (w : List ℕ) → 1 ≤ W → OfKind W (redraw W w)
  unfolding redraw
  redraw_kind w h = whole_kind w 0 9 h (omega arith)

  redraw_wanted : (w : List ℕ) → Wanted w (redraw W w)
  unfolding redraw
  redraw_wanted w = whole_wanted w 0 9 (omega arith)

  redraw_covers : (w : List ℕ) (p c : ℕ) → p ≤ 8 → c < W → 1 ≤ hits (runs_on p (redraw W w)) c
  unfolding redraw
  redraw_covers w p c hp hc = whole_hits w 0 9 p c (omega arith) (omega arith) hc

  -- the redraw paints the wanted picture
  pub redraw_paints : (w m : List ℕ) → 1 ≤ W → length m ≡ 9 * W → Same W (paint W m (redraw W w)) w
  redraw_paints w m h e = same_by W (paint W m (redraw W w)) w (λ p c hp hc.
      shown_hit w m (redraw W w) p c e (redraw_kind w h) (redraw_wanted w) hc (redraw_covers w p c hp hc))
