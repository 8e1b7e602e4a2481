-- No list of the kind that leaves the wanted picture is shorter than the update: on each page it must cover every differing column,
-- no cover of a page costs less than the page's share of the formula, and the bytes of the stretches of all pages are no more than
-- the stream's.
-- Assumes nothing.
use Prim.Native.Nat.{ℕ, zero, suc, ◌+◌, ◌≤◌, ◌<◌, min}
use mathlib.Core.Path.{◌≡◌, refl, sym, ◌∙◌}
use mathlib.Core.Logic.{◌≢◌}
use mathlib.Core.Bool.{cond}
use mathlib.Core.Option.{Option, none, some}
use mathlib.Core.List.{List, [], ◌∷◌}
use native.Mathlib.Omega.{arith}
use lib.ListN.{length}
use lib.Dec.{eqb}
use borrow.Author.Tests.{eqb-true, eqb-false, ne_eqb}
use Rattle.paper.proofs.Cases.{split, less}
use Rattle.streams.specs.Picture.{Same, differs}
use Rattle.streams.specs.Stretch.{Stretch, Place, end_of, OfKind, on_it, address, emit}
use Rattle.streams.specs.Length.{length_from, update_length}
use Rattle.streams.specs.Paint.{paint}
use Rattle.streams.proofs.Sums.{sum, sum_add, sum_zero, sum_point}
use Rattle.streams.proofs.Pictures.{same_at, differs_true}
use Rattle.streams.proofs.Runs.{hits}
use Rattle.streams.proofs.Cost.{weight, Covers, cover_costs}
use Rattle.streams.proofs.Emitting.{address_on, address_off, cons_length}
use Rattle.streams.proofs.Painting.{runs_on, shown_miss}

-- ---- what a list of stretches costs, page by page

-- the bytes of the stretches on page p
share : ℕ → Option Place → List Stretch → ℕ
share p before [] = 0
share p before (x ∷ xs) = cond (eqb x.page p) (length (address before x) + length x.content) 0 + share p (some (end_of x)) xs

-- 1 if the stretch before was on page p: its page byte is spared
spared : Option Place → ℕ → ℕ
spared before p = cond (on_it before p) 1 0

spared_le : (before : Option Place) (p : ℕ) → spared before p ≤ 1
unfolding spared
spared_le before p = split (on_it before p) (λ t. rw t (omega arith)) (λ t. rw t (omega arith))

spared_other : (l : Place) (p : ℕ) → l.page ≢ p → spared (some l) p ≡ 0
unfolding spared on_it
spared_other l p h = rw (ne_eqb l.page p h)

spared_none : (p : ℕ) → spared none p ≡ 0
unfolding spared on_it
spared_none p = refl

address_pays : (before : Option Place) (x : Stretch) (p : ℕ) → x.page ≡ p → length (address before x) + spared before p ≡ 3
unfolding spared
address_pays before x p e = rw (← e) (split (on_it before x.page) (λ t. rw (address_on before x t, t)) (λ t. rw (address_off before x t, t)))

share_pays : (p : ℕ) (before : Option Place) (xs : List Stretch)
    → min 1 (weight (runs_on p xs)) + weight (runs_on p xs) ≤ share p before xs + spared before p
unfolding share runs_on weight
share_pays p before [] = omega arith
share_pays p before (x ∷ xs) = split (eqb x.page p)
    (λ t. rw t (omega (
      arith,
      address_pays before x p (eqb-true x.page p t),
      spared_le (some (end_of x)) p,
      share_pays p (some (end_of x)) xs,
    )))
    (λ t. rw t (omega (arith, spared_other (end_of x) p (eqb-false x.page p t), share_pays p (some (end_of x)) xs)))

shares : (before : Option Place) (xs : List Stretch) (n : ℕ) → sum (λ p. share p before xs) 0 n ≤ length (emit before xs)
unfolding share
shares before [] n = omega (arith, sum_zero 0 n)
shares before (x ∷ xs) n =
    let k = length (address before x) + length x.content in
    omega (
      arith,
      cons_length before x xs,
      sum_add (λ p. cond (eqb x.page p) k 0) (λ p. share p (some (end_of x)) xs) 0 n,
      sum_point x.page k 0 n,
      shares (some (end_of x)) xs n,
    )

-- ---- no list of the kind is shorter; the memory m shows the recorded picture r, whatever the upper bits of its page 8

module _ (W : ℕ) (m r w : List ℕ) (xs : List Stretch) (start : Same W m r) (kind : OfKind W xs) (end : Same W (paint W m xs) w) where
  covers : (p : ℕ) → p < 9 → Covers (differs W r w p) W (runs_on p xs)
  covers p hp c hc t = less 0 (hits (runs_on p xs) c)
      (λ h. h)
      (λ h. absurd (differs_true W r w p c t
      (sym (same_at W m r p c start (omega arith) hc) ∙ sym (shown_miss W m xs p c kind hc (omega arith))
      ∙ same_at W (paint W m xs) w p c end (omega arith) hc)))

  pages_pay : (p n : ℕ) → p + n ≤ 9 → length_from W r w p n ≤ sum (λ q. share q none xs) p n
  unfolding length_from sum
  pages_pay p zero h = omega arith
  pages_pay p (suc n) h =
      omega (
        arith,
        cover_costs (differs W r w p) (runs_on p xs) W (covers p (omega arith)),
        share_pays p none xs,
        spared_none p,
        pages_pay (suc p) n (omega arith),
      )

  pub least : update_length W r w ≤ length (emit none xs)
  unfolding update_length
  least = omega (arith, pages_pay 0 9 (omega arith), shares none xs 9)
