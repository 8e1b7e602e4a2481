-- The runs of a page: they lie inside the page, rise, are not empty, and cover every differing column. A differing column that joins
-- the run after it only makes that run longer to the left, so what was covered stays covered.
-- Assumes nothing.
use Prim.Native.Nat.{ℕ, zero, suc, ◌+◌, ◌-◌, ◌≤◌, ◌<◌, min}
use mathlib.Core.Path.{◌≡◌}
use mathlib.Core.Bool.{Bool, true, false}
use mathlib.Core.List.{List, [], ◌∷◌}
use native.Mathlib.Omega.{arith}
use borrow.Author.Tests.{leb-true, leb-false, le-leb, lt-leb}
use Rattle.paper.proofs.Cases.{split, less}
use Rattle.streams.specs.Update.{Run, joins, join, join_if, runs}

-- ---- at most 2 equal columns between

pub joins_near : (next c : ℕ) → joins next c ≡ true → c ≤ next + 2
unfolding joins
joins_near next c e = leb-true c (next + 2) e

pub joins_far : (next c : ℕ) → joins next c ≡ false → next + 2 < c
unfolding joins
joins_far next c e = leb-false c (next + 2) e

pub joins_yes : (next c : ℕ) → c ≤ next + 2 → joins next c ≡ true
unfolding joins
joins_yes next c h = le-leb c (next + 2) h

pub joins_no : (next c : ℕ) → next + 2 < c → joins next c ≡ false
unfolding joins
joins_no next c h = lt-leb c (next + 2) h

-- ---- where the runs lie

-- in columns c to e - 1, rising, none of them empty
abbrev pub Fits : ℕ → ℕ → List Run → Type 0
Fits c e [] = Unit {0}
Fits c e (r ∷ rs) = (c ≤ r.start) × (1 ≤ r.size) × (r.start + r.size ≤ e) × Fits (r.start + r.size) e rs

fits_from : (b c e : ℕ) (rs : List Run) → b ≤ c → Fits c e rs → Fits b e rs
fits_from b c e [] h f = tt
fits_from b c e (r ∷ rs) h f = (omega arith, f.1, f.2, f.3)

join_fits : (c e : ℕ) (rs : List Run) → c < e → Fits (suc c) e rs → Fits c e (join c rs)
unfolding join
join_fits c e [] h f = (omega arith, omega arith, omega arith, tt)
join_fits c e (r ∷ rs) h f = split (joins (suc c) r.start)
    (λ t. rw t (omega arith, omega arith, omega arith, fits_from _ (r.start + r.size) e rs (omega arith) f.3))
    (λ t. rw t (omega arith, omega arith, omega arith, fits_from _ (suc c) e (r ∷ rs) (omega arith) f))

pub runs_fit : (d : ℕ → Bool) (c n e : ℕ) → c + n ≤ e → Fits c e (runs d c n)
unfolding runs join_if
runs_fit d c zero e h = tt
runs_fit d c (suc n) e h =
    let ih : Fits (suc c) e (runs d (suc c) n) = runs_fit d (suc c) n e (omega arith) in
    split (d c)
    (λ t. rw t (join_fits c e (runs d (suc c) n) (omega arith) ih))
    (λ t. rw t (fits_from c (suc c) e (runs d (suc c) n) (omega arith) ih))

-- ---- which columns they cover

-- 1 where the run covers column c, and else 0
unfoldable pub in_run : Run → ℕ → ℕ
in_run r c = min 1 (r.start + r.size - c) - (r.start - c)

pub in_before : (r : Run) (c : ℕ) → c < r.start → in_run r c ≡ 0
unfolding in_run
in_before r c h = omega arith

pub in_inside : (r : Run) (c : ℕ) → r.start ≤ c → c < r.start + r.size → in_run r c ≡ 1
unfolding in_run
in_inside r c h k = omega arith

pub in_after : (r : Run) (c : ℕ) → r.start + r.size ≤ c → in_run r c ≡ 0
unfolding in_run
in_after r c h = omega arith

pub in_le : (r : Run) (c : ℕ) → in_run r c ≤ 1
unfolding in_run
in_le r c = omega arith

-- how many of the runs cover column c
unfoldable pub hits : List Run → ℕ → ℕ
hits [] c = 0
hits (r ∷ rs) c = in_run r c + hits rs c

in_wider : (r s : Run) (k : ℕ) → s.start ≤ r.start → r.start + r.size ≤ s.start + s.size → in_run r k ≤ in_run s k
in_wider r s k a b = less k r.start
    (λ h. omega (arith, in_before r k h))
    (λ h. less k (r.start + r.size)
    (λ l. omega (arith, in_le r k, in_inside s k (omega arith) (omega arith)))
    (λ l. omega (arith, in_after r k l)))

join_here : (c e : ℕ) (rs : List Run) → Fits (suc c) e rs → 1 ≤ hits (join c rs) c
unfolding join hits
join_here c e [] f = omega (arith, in_inside (record { start = c; size = 1 }) c (omega arith) (omega arith))
join_here c e (r ∷ rs) f = split (joins (suc c) r.start)
    (λ t. rw t (omega (arith, in_inside (record { start = c; size = r.start - c + r.size }) c (omega arith) (omega arith))))
    (λ t. rw t (omega (arith, in_inside (record { start = c; size = 1 }) c (omega arith) (omega arith))))

join_more : (c e k : ℕ) (rs : List Run) → Fits (suc c) e rs → hits rs k ≤ hits (join c rs) k
unfolding join hits
join_more c e k [] f = omega arith
join_more c e k (r ∷ rs) f = split (joins (suc c) r.start)
    (λ t. rw t (omega (arith, in_wider r (record { start = c; size = r.start - c + r.size }) k (omega arith) (omega arith))))
    (λ t. rw t (omega arith))

pub runs_cover : (d : ℕ → Bool) (c n k : ℕ) → c ≤ k → k < c + n → d k ≡ true → 1 ≤ hits (runs d c n) k
unfolding runs join_if
runs_cover d c zero k a b t = absurd (omega arith)
runs_cover d c (suc n) k a b t =
    let f : Fits (suc c) (suc c + n) (runs d (suc c) n) = runs_fit d (suc c) n (suc c + n) (omega arith) in
    less c k
    (λ h. let ih = runs_cover d (suc c) n k h (omega arith) t in
    split (d c)
    (λ u. rw u (omega (arith, ih, join_more c (suc c + n) k (runs d (suc c) n) f)))
    (λ u. rw u ih))
    (λ h. let e : k ≡ c = omega arith in
    rw e (rw (rw e at t) (join_here c (suc c + n) (runs d (suc c) n) f)))
