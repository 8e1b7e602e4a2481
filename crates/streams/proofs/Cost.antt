-- What a page's runs cost: their bytes are the paper's formula, and no other cover of the differing columns costs less. Both are
-- compared with one function, `to_pay`, which charges a differing column 1 and min(gap, 2) for the equal columns behind it; nothing
-- behind counts as a gap of 2, for the two column bytes.
-- Assumes nothing.
use Prim.Native.Nat.{ℕ, zero, suc, ◌+◌, ◌-◌, ◌*◌, ◌≤◌, ◌<◌, min}
use mathlib.Core.Path.{◌≡◌, refl}
use mathlib.Core.Logic.{◌≢◌}
use mathlib.Core.Bool.{Bool, true, false}
use mathlib.Core.List.{List, [], ◌∷◌}
use native.Mathlib.Omega.{arith}
use lib.Dec.{eqb}
use borrow.Author.Tests.{eqb-true, eqb-false}
use Rattle.paper.proofs.Cases.{split, less}
use Rattle.streams.specs.Update.{Run, joins, join, join_if, runs}
use Rattle.streams.specs.Length.{differing, gaps, gap_cost, page_length}
use Rattle.streams.specs.Tally.{to_pay}
use Rattle.streams.proofs.Sums.{sum, sum_le, sum_add, sum_zero}
use Rattle.streams.proofs.Runs.{joins_near, joins_far, Fits, runs_fit, in_run, in_before, in_inside, in_after, in_le, hits}

-- two column bytes and the data, for each run
unfoldable pub weight : List Run → ℕ
weight [] = 0
weight (r ∷ rs) = 2 + r.size + weight rs

-- it grows with the gap as min(gap, 2) does
pub to_pay_gap : (d : ℕ → Bool) (k g h c n : ℕ) → min h 2 ≤ min g 2 + k → to_pay d h c n ≤ to_pay d g c n + k
unfolding to_pay
to_pay_gap d k g h c zero l = omega arith
to_pay_gap d k g h c (suc n) l = split (d c)
    (λ e. rw e (omega arith))
    (λ e. rw e (to_pay_gap d k (suc g) (suc h) (suc c) n (omega arith)))

-- ---- no cover costs less: the cost of any runs, laid on the columns, is at least what is to be paid there

-- 1 where the run starts at column c, and else 0
is_start : Run → ℕ → ℕ
is_start r c = 1 - (r.start - c + (c - r.start))

start_at : (r : Run) (c : ℕ) → r.start ≡ c → is_start r c ≡ 1
unfolding is_start
start_at r c h = omega arith

start_before : (r : Run) (c : ℕ) → c < r.start → is_start r c ≡ 0
unfolding is_start
start_before r c h = omega arith

start_after : (r : Run) (c : ℕ) → r.start < c → is_start r c ≡ 0
unfolding is_start
start_after r c h = omega arith

-- a column is covered by a run that starts there, or that covers the column before
in_step : (r : Run) (c : ℕ) → in_run r (suc c) ≤ in_run r c + is_start r (suc c)
in_step r c = less c r.start
    (λ h. less (suc c) r.start
    (λ k. omega (arith, in_before r (suc c) k))
    (λ k. omega (arith, in_le r (suc c), start_at r (suc c) (omega arith))))
    (λ h. less (suc c) (r.start + r.size)
    (λ k. omega (arith, in_le r (suc c), in_inside r c h (omega arith)))
    (λ k. omega (arith, in_after r (suc c) k)))

in_first : (r : Run) → in_run r 0 ≤ is_start r 0
in_first r = less 0 r.start
    (λ h. omega (arith, in_before r 0 h))
    (λ h. omega (arith, in_le r 0, start_at r 0 (omega arith)))

-- what one run costs, laid on its columns
laid : Run → ℕ → ℕ
laid r c = in_run r c + 2 * is_start r c

laid_after : (r : Run) (c n : ℕ) → r.start < c → sum (laid r) c n ≤ r.start + r.size - c
unfolding sum laid
laid_after r c zero h = omega arith
laid_after r c (suc n) h =
    let ih = laid_after r (suc c) n (omega arith) in
    less c (r.start + r.size)
    (λ k. omega (arith, ih, in_le r c, start_after r c h))
    (λ k. omega (arith, ih, in_after r c k, start_after r c h))

laid_sum : (r : Run) (c n : ℕ) → c ≤ r.start → sum (laid r) c n ≤ r.size + 2
unfolding sum laid
laid_sum r c zero h = omega arith
laid_sum r c (suc n) h = less c r.start
    (λ k. omega (arith, in_before r c k, start_before r c k, laid_sum r (suc c) n k))
    (λ k. less c (r.start + r.size)
    (λ l. omega (arith, in_le r c, start_at r c (omega arith), laid_after r (suc c) n (omega arith)))
    (λ l. omega (arith, in_after r c l, start_at r c (omega arith), laid_after r (suc c) n (omega arith))))

-- how many of the runs start at column c
starts : List Run → ℕ → ℕ
starts [] c = 0
starts (r ∷ rs) c = is_start r c + starts rs c

hits_step : (rs : List Run) (c : ℕ) → hits rs (suc c) ≤ hits rs c + starts rs (suc c)
unfolding hits starts
hits_step [] c = omega arith
hits_step (r ∷ rs) c = omega (arith, in_step r c, hits_step rs c)

hits_first : (rs : List Run) → hits rs 0 ≤ starts rs 0
unfolding hits starts
hits_first [] = omega arith
hits_first (r ∷ rs) = omega (arith, in_first r, hits_first rs)

laid_all : List Run → ℕ → ℕ
laid_all rs c = hits rs c + 2 * starts rs c

laid_all_sum : (rs : List Run) (n : ℕ) → sum (laid_all rs) 0 n ≤ weight rs
unfolding hits starts laid_all laid weight
laid_all_sum [] n = omega (arith, sum_zero 0 n)
laid_all_sum (r ∷ rs) n =
    omega (
      arith,
      sum_le (laid_all (r ∷ rs)) (λ k. laid r k + laid_all rs k) (λ k. omega arith) 0 n,
      sum_add (laid r) (laid_all rs) 0 n,
      laid_sum r 0 n (omega arith),
      laid_all_sum rs n,
    )

-- what is to be paid where the column before c is covered h times
ahead : (ℕ → Bool) → ℕ → ℕ → ℕ → ℕ
ahead d zero c n = to_pay d 2 c n
ahead d (suc h) c n = to_pay d 0 c n

ahead_0 : (d : ℕ → Bool) (h c n : ℕ) → to_pay d 0 c n ≤ ahead d h c n
unfolding ahead
ahead_0 d zero c n = omega (arith, to_pay_gap d 0 2 0 c n (omega arith))
ahead_0 d (suc h) c n = omega arith

ahead_1 : (d : ℕ → Bool) (h c n : ℕ) → to_pay d 1 c n ≤ ahead d h c n + h
unfolding ahead
ahead_1 d zero c n = omega (arith, to_pay_gap d 0 2 1 c n (omega arith))
ahead_1 d (suc h) c n = omega (arith, to_pay_gap d 1 0 1 c n (omega arith))

ahead_3 : (d : ℕ → Bool) (h c n : ℕ) → to_pay d 3 c n ≤ ahead d h c n + 2 * h
unfolding ahead
ahead_3 d zero c n = omega (arith, to_pay_gap d 0 2 3 c n (omega arith))
ahead_3 d (suc h) c n = omega (arith, to_pay_gap d 2 0 3 c n (omega arith))

-- the runs cover every differing column of the first n
abbrev pub Covers : (ℕ → Bool) → ℕ → List Run → Type 0
Covers d n rs = (c : ℕ) → c < n → d c ≡ true → 1 ≤ hits rs c

bound : (d : ℕ → Bool) (rs : List Run) (N : ℕ) → Covers d N rs
    → (h c n : ℕ) → c + n ≡ N → hits rs c ≤ h + starts rs c → ahead d h c n ≤ sum (laid_all rs) c n
unfolding ahead to_pay sum laid_all
bound d rs N cov zero c zero e l = omega arith
bound d rs N cov (suc h) c zero e l = omega arith
bound d rs N cov zero c (suc n) e l =
    let ih = bound d rs N cov (hits rs c) (suc c) n (omega arith) (hits_step rs c) in
    split (d c)
    (λ t. rw t (omega (arith, ih, cov c (omega arith) t, ahead_0 d (hits rs c) (suc c) n)))
    (λ t. rw t (omega (arith, ih, ahead_3 d (hits rs c) (suc c) n)))
bound d rs N cov (suc h) c (suc n) e l =
    let ih = bound d rs N cov (hits rs c) (suc c) n (omega arith) (hits_step rs c) in
    split (d c)
    (λ t. rw t (omega (arith, ih, cov c (omega arith) t, ahead_0 d (hits rs c) (suc c) n)))
    (λ t. rw t (omega (arith, ih, ahead_1 d (hits rs c) (suc c) n)))

cover_pays : (d : ℕ → Bool) (rs : List Run) (n : ℕ) → Covers d n rs → to_pay d 2 0 n ≤ weight rs
unfolding ahead
cover_pays d rs n cov = omega (arith, bound d rs n cov 0 0 n (omega arith) (omega (arith, hits_first rs)), laid_all_sum rs n)

-- ---- the update's runs cost just that

owed : ℕ → ℕ → List Run → ℕ
owed g c [] = 0
owed g c (r ∷ rs) = min (g + (r.start - c)) 2 + r.size + weight rs

owed_all : (c : ℕ) (rs : List Run) → owed 2 c rs ≡ weight rs
unfolding owed weight
owed_all c [] = refl
owed_all c (r ∷ rs) = omega arith

owed_next : (g c e : ℕ) (rs : List Run) → Fits (suc c) e rs → owed (suc g) (suc c) rs ≡ owed g c rs
unfolding owed
owed_next g c e [] f = refl
owed_next g c e (r ∷ rs) f = omega arith

owed_join : (g c e : ℕ) (rs : List Run) → Fits (suc c) e rs → owed g c (join c rs) ≡ min g 2 + 1 + owed 0 (suc c) rs
unfolding owed join weight
owed_join g c e [] f = omega arith
owed_join g c e (r ∷ rs) f = split (joins (suc c) r.start)
    (λ t. let l = joins_near (suc c) r.start t in rw t (omega arith))
    (λ t. let l = joins_far (suc c) r.start t in rw t (omega arith))

runs_owed : (d : ℕ → Bool) (g c n : ℕ) → to_pay d g c n ≡ owed g c (runs d c n)
unfolding to_pay runs join_if owed
runs_owed d g c zero = refl
runs_owed d g c (suc n) =
    let f : Fits (suc c) (suc c + n) (runs d (suc c) n) = runs_fit d (suc c) n (suc c + n) (omega arith) in
    split (d c)
    (λ t. rw t (omega (arith, owed_join g c (suc c + n) (runs d (suc c) n) f, runs_owed d 0 (suc c) n)))
    (λ t. rw t (omega (arith, owed_next g c (suc c + n) (runs d (suc c) n) f, runs_owed d (suc g) (suc c) n)))

runs_pay : (d : ℕ → Bool) (n : ℕ) → weight (runs d 0 n) ≡ to_pay d 2 0 n
runs_pay d n = omega (arith, runs_owed d 2 0 n, owed_all 0 (runs d 0 n))

-- ---- the formula says the same

to_pay_after : (d : ℕ → Bool) (g c n : ℕ) → to_pay d g c n ≡ differing d c n + gap_cost (gaps d true g c n)
unfolding to_pay differing gaps gap_cost
to_pay_after d g c zero = refl
to_pay_after d g c (suc n) = split (d c)
    (λ t. rw t (omega (arith, to_pay_after d 0 (suc c) n)))
    (λ t. rw t (omega (arith, to_pay_after d (suc g) (suc c) n)))

to_pay_none : (d : ℕ → Bool) (g c n : ℕ) → differing d c n ≡ 0 → to_pay d g c n ≡ 0
unfolding to_pay differing
to_pay_none d g c zero e = refl
to_pay_none d g c (suc n) e = split (d c)
    (λ t. absurd (omega (arith, rw t at e)))
    (λ t. rw t (to_pay_none d (suc g) (suc c) n (omega (arith, rw t at e))))

to_pay_first : (d : ℕ → Bool) (g h c n : ℕ) → 2 ≤ g → 1 ≤ differing d c n → to_pay d g c n ≡ 2 + differing d c n + gap_cost (gaps d false h c n)
unfolding to_pay differing gaps gap_cost
to_pay_first d g h c zero l e = absurd (omega arith)
to_pay_first d g h c (suc n) l e = split (d c)
    (λ t. rw t (omega (arith, to_pay_after d 0 (suc c) n)))
    (λ t. rw t (omega (arith, to_pay_first d (suc g) (suc h) (suc c) n (omega arith) (omega (arith, rw t at e)))))

pub page_length_pays : (d : ℕ → Bool) (n : ℕ) → page_length d n ≡ min 1 (to_pay d 2 0 n) + to_pay d 2 0 n
unfolding page_length
page_length_pays d n = split (eqb (differing d 0 n) 0)
    (λ t. rw t (omega (arith, to_pay_none d 2 0 n (eqb-true (differing d 0 n) 0 t))))
    (λ t. let l : differing d 0 n ≢ 0 = eqb-false (differing d 0 n) 0 t in
    rw t (omega (arith, to_pay_first d 2 0 0 n (omega arith) (omega arith))))

to_pay_most : (d : ℕ → Bool) (g c n : ℕ) → to_pay d g c n ≤ min g 2 + n
unfolding to_pay
to_pay_most d g c zero = omega arith
to_pay_most d g c (suc n) = split (d c)
    (λ t. rw t (omega (arith, to_pay_most d 0 (suc c) n)))
    (λ t. rw t (omega (arith, to_pay_most d (suc g) (suc c) n)))

pub page_length_most : (d : ℕ → Bool) (n : ℕ) → page_length d n ≤ n + 3
page_length_most d n = omega (arith, page_length_pays d n, to_pay_most d 2 0 n)

-- ---- the page's runs, and the page byte if there is one: that is the formula, and no cover costs less

pub runs_cost : (d : ℕ → Bool) (n : ℕ) → min 1 (weight (runs d 0 n)) + weight (runs d 0 n) ≡ page_length d n
runs_cost d n = omega (arith, page_length_pays d n, runs_pay d n)

pub cover_costs : (d : ℕ → Bool) (rs : List Run) (n : ℕ) → Covers d n rs → page_length d n ≤ min 1 (weight rs) + weight rs
cover_costs d rs n cov = omega (arith, page_length_pays d n, cover_pays d rs n cov)
