-- The groups of a list of pages. Where every page that differs stands there once they are as long as the update, and they paint the
-- same memory, byte for byte; and whatever pages stand there, those show the wanted picture, and all others what they showed. A cell is
-- hit as often as its page stands in the list; one that is hit holds the wanted byte, whatever else was sent, and one that is not keeps
-- its own.
-- Assumes nothing.
use Prim.Native.Nat.{ℕ, zero, suc, ◌+◌, ◌*◌, ◌/◌, ◌%◌, ◌≤◌, ◌<◌}
use mathlib.Core.Path.{◌≡◌, refl, sym, ◌∙◌, ap}
use mathlib.Core.Logic.{◌≢◌, ◌⊎◌, inl, inr, ⊎_elim}
use mathlib.Core.Bool.{cond}
use mathlib.Core.Option.{none}
use mathlib.Core.List.{List, [], ◌∷◌, ◌++◌, append_assoc}
use native.Mathlib.Nat.{add-mul, one-mul, zero-mul, mul-zero, one-le-mul, mul_comm, mod-lt, div-add-mod', div-lt_iff_lt-mul}
use native.Mathlib.Omega.{arith}
use lib.ListN.{length, get_or, length-append}
use lib.Seq.{ext_get_or}
use lib.Dec.{eqb}
use borrow.Author.Tests.{eqb-true, eqb-false}
use Rattle.paper.proofs.Cases.{split, less}
use Rattle.streams.specs.Picture.{shown, Same, differs}
use Rattle.streams.specs.Stretch.{OfKind}
use Rattle.streams.specs.Update.{runs, page_work, work_from, update, update_stream}
use Rattle.streams.specs.Length.{page_length, length_from, update_length}
use Rattle.streams.specs.Paint.{paint}
use Rattle.streams.specs.Shape.{group, groups}
use Rattle.streams.specs.Order.{times, EachOnce, rising, groups_in, work_in, Mixed, Last}
use Rattle.streams.proofs.Sums.{sum, sum_same}
use Rattle.streams.proofs.Pictures.{same_at, same_by, differs_false}
use Rattle.streams.proofs.Runs.{hits, runs_fit, runs_cover}
use Rattle.streams.proofs.Emitting.{none_or_some, Writes, writes_append, emit_writes}
use Rattle.streams.proofs.Painting.{runs_on, hits_append, kind_append, Wanted, wanted_append, paint_length, paint_hit, paint_miss, shown_hit, shown_miss, page_kind, page_wanted, page_hits, page_misses}
use Rattle.streams.proofs.Readers.{update_groups}
use Rattle.streams.proofs.Grouping.{no_length, group_length, none_length, none_work, none_hits}
use Rattle.streams.proofs.PageLists.{times_here, times_more, Paged, paged_none, paged_first, paged_rest, sum_in, counted, rising_past, rising_once}

module _ (W : ℕ) (r w : List ℕ) where
  -- every page once, and so every group
  pub rising_each : EachOnce W r w (rising 0 9)
  rising_each = record { once = λ p h g. rising_once p 0 9 (omega arith) (omega arith); pages = λ p h. rising_past p 0 9 (omega arith) }

  -- the groups one after the other, so that no layer above opens them
  pub in_none : groups_in W r w [] ≡ []
  unfolding groups_in
  in_none = refl

  pub in_next : (p : ℕ) (order : List ℕ) → groups_in W r w (p ∷ order) ≡ group W r w p ++ groups_in W r w order
  unfolding groups_in
  in_next p order = refl

  work_rising : (p n : ℕ) → work_in W r w (rising p n) ≡ work_from W r w p n
  unfolding rising work_in work_from
  work_rising p zero = refl
  work_rising p (suc n) = rw (work_rising (suc p) n)

  groups_rising : (p n : ℕ) → groups_in W r w (rising p n) ≡ groups W r w p n
  unfolding rising groups_in groups
  groups_rising p zero = refl
  groups_rising p (suc n) = rw (groups_rising (suc p) n)

  rising_work : work_in W r w (rising 0 9) ≡ update W r w
  unfolding update
  rising_work = work_rising 0 9

  -- rising, the groups are the update
  pub rising_stream : groups_in W r w (rising 0 9) ≡ update_stream W r w
  rising_stream = groups_rising 0 9 ∙ sym (update_groups W r w)

  -- where no page has a group there is no work
  pub none_in : (order : List ℕ) → ((q : ℕ) → group W r w q ≢ [] → times q order ≡ 0) → work_in W r w order ≡ []
  unfolding work_in
  none_in [] h = refl
  none_in (p ∷ order) h = none_or_some (group W r w p)
      (λ e. rw (none_work W r w p e) (none_in order (λ q g. omega (arith, h q g, times_more q p order))))
      (λ g. absurd (omega (arith, h p g, times_here p order)))

  pub work_in_append : (front back : List ℕ) → work_in W r w (front ++ back) ≡ work_in W r w front ++ work_in W r w back
  unfolding work_in
  work_in_append [] back = refl
  work_in_append (p ∷ front) back = rw (work_in_append front back) (simp append_assoc)

  -- some page's group is the last, unless there is no group: by the rest of the list, and else by its first page
  pub record Ending (order : List ℕ) : Type 0 where
    pub page : ℕ
    pub last : Last W r w order page

  pub last_or_none : (order : List ℕ) → Ending order ⊎ ((q : ℕ) → group W r w q ≢ [] → times q order ≡ 0)
  unfolding times
  last_or_none [] = inr (λ q g. refl)
  last_or_none (p ∷ order) = ⊎_elim
      (λ e. let l = e.last in
      inl (record {
        page = e.page;
        last = record { before = p ∷ l.before; later = l.later; stands = ap (λ (xs : List ℕ). p ∷ xs) l.stands; sends = l.sends; alone = l.alone };
      }))
      (λ none. none_or_some (group W r w p)
      (λ e. inr (λ q g. split (eqb p q)
      (λ t. absurd (g (rw (eqb-true p q t) at e)))
      (λ t. rw t (omega (arith, none q g)))))
      (λ g. inl (record { page = p; last = record { before = []; later = order; stands = refl; sends = g; alone = none } })))
      (last_or_none order)

  -- ---- length

  in_length : (order : List ℕ) → length (groups_in W r w order) ≡ sum_in (λ p. page_length (differs W r w p) W) order
  unfolding groups_in sum_in
  in_length [] = refl
  in_length (p ∷ order) = omega (arith, length-append (group W r w p) (groups_in W r w order), group_length W r w p, in_length order)

  from_sum : (p n : ℕ) → length_from W r w p n ≡ sum (λ q. page_length (differs W r w q) W) p n
  unfolding length_from sum
  from_sum p zero = refl
  from_sum p (suc n) = omega (arith, from_sum (suc p) n)

  pub order_length : (order : List ℕ) → EachOnce W r w order → length (groups_in W r w order) ≡ update_length W r w
  unfolding update_length
  order_length order each =
      let f : ℕ → ℕ = λ p. page_length (differs W r w p) W in
      in_length order ∙ counted f order each.pages
      ∙ sum_same (λ p. times p order * f p) f 0 9 (λ p a b. none_or_some (group W r w p)
      (λ e. rw (none_length W r w p e) (omega arith))
      (λ g. rw (each.once p (omega arith) g) (one-mul (f p))))
      ∙ sym (from_sum 0 9)

  -- where no page has a group nothing is sent: the empty list is such a list too, and as long
  pub none_sent : (order : List ℕ) → EachOnce W r w order → ((p : ℕ) → p ≤ 8 → group W r w p ≡ []) → groups_in W r w order ≡ []
  none_sent order each h =
      let empty : EachOnce W r w [] = record { once = λ p l g. absurd (g (h p l)); pages = paged_none } in
      no_length (groups_in W r w order) (order_length order each ∙ sym (order_length [] empty) ∙ ap length in_none)

  -- ---- memory

  group_hits : (p q k : ℕ) → hits (runs_on q (page_work W r w p)) k ≡ cond (eqb p q) 1 0 * hits (runs (differs W r w q) 0 W) k
  unfolding page_work
  group_hits p q k = split (eqb p q)
      (λ t. let e = eqb-true p q t in rw t (rw e (page_hits W w q k (runs (differs W r w q) 0 W) ∙ sym (one-mul (hits (runs (differs W r w q) 0 W) k)))))
      (λ t. rw t (page_misses W w p q k (runs (differs W r w p) 0 W) (eqb-false p q t) ∙ sym (zero-mul (hits (runs (differs W r w q) 0 W) k))))

  -- a cell is hit as often as its page stands in the list
  order_hits : (order : List ℕ) (q k : ℕ) → hits (runs_on q (work_in W r w order)) k ≡ times q order * hits (runs (differs W r w q) 0 W) k
  unfolding work_in times runs_on hits
  order_hits [] q k = sym (zero-mul (hits (runs (differs W r w q) 0 W) k))
  order_hits (p ∷ order) q k =
      omega (
        arith,
        hits_append q k (page_work W r w p) (work_in W r w order),
        group_hits p q k,
        order_hits order q k,
        add-mul (cond (eqb p q) 1 0) (times q order) (hits (runs (differs W r w q) 0 W) k),
      )

  pub page_good : (p : ℕ) → p ≤ 8 → OfKind W (page_work W r w p) × Wanted W w (page_work W r w p)
  unfolding page_work
  page_good p h =
      let rs = runs (differs W r w p) 0 W in (page_kind W w p 0 rs h (runs_fit (differs W r w p) 0 W W (omega arith)), page_wanted W w p rs h)

  order_good : (order : List ℕ) → Paged order → OfKind W (work_in W r w order) × Wanted W w (work_in W r w order)
  unfolding work_in
  order_good [] h = (tt, tt)
  order_good (p ∷ order) h =
      let a = page_good p (paged_first p order h) in
      let b = order_good order (paged_rest p order h) in
      let xs = page_work W r w p in
      let ys = work_in W r w order in
      (kind_append W xs ys a.0 b.0, wanted_append W w xs ys a.1 b.1)

  -- the groups write and never read
  pub order_writes : (order : List ℕ) → Paged order → Writes (groups_in W r w order)
  unfolding groups_in group
  order_writes [] h = (tt, λ g. absurd (g refl))
  order_writes (p ∷ order) h =
      writes_append (group W r w p) (groups_in W r w order)
      (emit_writes W none (page_work W r w p) (page_good p (paged_first p order h)).0)
      (order_writes order (paged_rest p order h))

  -- a column that no run covers does not differ
  equal : (p c : ℕ) → c < W → hits (runs (differs W r w p) 0 W) c ≡ 0 → shown W r p c ≡ shown W w p c
  equal p c h z = split (differs W r w p c)
      (λ t. absurd (omega (arith, runs_cover (differs W r w p) 0 W c (omega arith) (omega arith) t)))
      (λ t. differs_false W r w p c t)

  -- where every page that differs stands in the list, that is the wanted picture
  pub once_mixed : (order : List ℕ) → EachOnce W r w order → Mixed W r w order w
  once_mixed order each p c hp hc = split (eqb (times p order) 0)
      (λ t. rw t (none_or_some (group W r w p)
      (λ e. sym (equal p c hc (none_hits W r w p c e)))
      (λ g. absurd (omega (arith, each.once p hp g, eqb-true (times p order) 0 t)))))
      (λ t. rw t refl)

  module _ (m : List ℕ) (sized : length m ≡ 9 * W) where
    -- what stands in a cell does not depend on the order
    cell_is : (order : List ℕ) → EachOnce W r w order → (q k : ℕ) → q ≤ 8 → k < W
        → get_or (paint W m (work_in W r w order)) (W * q + k) 0 ≡ cond (eqb (hits (runs (differs W r w q) 0 W) k) 0) (get_or m (W * q + k) 0) (shown W w q k)
    cell_is order each q k hq hk =
        let xs = work_in W r w order in
        let ok = order_good order each.pages in
        let n = hits (runs (differs W r w q) 0 W) k in
        split (eqb n 0)
        (λ t. rw t (paint_miss W m xs q k ok.0 hk (order_hits order q k ∙ rw (eqb-true n 0 t) (omega arith))))
        (λ t. let some : n ≢ 0 = eqb-false n 0 t in
        let one : times q order ≡ 1 = each.once q hq (λ e. some (none_hits W r w q k e)) in
        let hit : hits (runs_on q xs) k ≡ n = order_hits order q k ∙ rw one (one-mul n) in
        rw t (paint_hit W w m xs q k sized ok.0 ok.1 hk (omega arith)))

    pub order_paints : (order : List ℕ) → EachOnce W r w order → paint W m (work_in W r w order) ≡ paint W m (update W r w)
    order_paints order each =
        let xs = work_in W r w order in
        let ys = work_in W r w (rising 0 9) in
        ext_get_or 0 (paint W m xs) (paint W m ys) (paint_length W m xs ∙ sym (paint_length W m ys)) (λ i h.
        let l : i < 9 * W = omega (arith, paint_length W m xs) in
        let pos : 0 < W = omega arith in
        let q = i / W in
        let k = i % W in
        let e : W * q + k ≡ i = omega (arith, mul_comm W q, div-add-mod' i W) in
        let hq : q < 9 = (div-lt_iff_lt-mul pos).1 l in
        let hk : k < W = mod-lt i pos in
        let c = cell_is order each q k (omega arith) hk ∙ sym (cell_is (rising 0 9) rising_each q k (omega arith) hk) in
        rw e at c)
        ∙ ap (paint W m) rising_work

    -- after the groups of any pages, a page twice too: those pages show the wanted picture, and all others what they showed
    pub order_shows : (order picture : List ℕ) → Paged order → Same W m r → Mixed W r w order picture → Same W (paint W m (work_in W r w order)) picture
    order_shows order picture h a mixed =
        let xs = work_in W r w order in
        let ok = order_good order h in
        same_by W (paint W m xs) picture (λ p c hp hc.
        let n = hits (runs (differs W r w p) 0 W) c in
        let hit = order_hits order p c in
        let kept : hits (runs_on p xs) c ≡ 0 → shown W (paint W m xs) p c ≡ shown W r p c =
        λ z. shown_miss W m xs p c ok.0 hc z ∙ same_at W m r p c a hp hc in
        split (eqb (times p order) 0)
        (λ t. kept (hit ∙ rw (eqb-true (times p order) 0 t) (zero-mul n)) ∙ sym (mixed p c hp hc ∙ rw t refl))
        (λ t. let some : times p order ≢ 0 = eqb-false (times p order) 0 t in
        less 0 n
        (λ l. shown_hit W w m xs p c sized ok.0 ok.1 hc (omega (arith, hit, one-le-mul {a = times p order} {b = n} (omega arith) l)))
        (λ l. let z : n ≡ 0 = omega arith in
        kept (hit ∙ rw z (mul-zero (times p order))) ∙ equal p c hc z)
        ∙ sym (mixed p c hp hc ∙ rw t refl)))
