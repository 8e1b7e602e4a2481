-- Sums over a range of numbers: a sum grows with its terms, and a value that stands at one number only is counted at most once, and
-- once where that number is in the range.
-- Assumes nothing.
use Prim.Native.Nat.{ℕ, zero, suc, ◌+◌, ◌≤◌, ◌<◌}
use mathlib.Core.Path.{◌≡◌, refl}
use mathlib.Core.Bool.{cond}
use native.Mathlib.Omega.{arith}
use lib.Dec.{eqb}
use borrow.Author.Tests.{eqb-true, eqb-false, ne_eqb}
use Rattle.paper.proofs.Cases.{split}

-- f c + f (c + 1) + .. , n terms
unfoldable pub sum : (ℕ → ℕ) → ℕ → ℕ → ℕ
sum f c zero = 0
sum f c (suc n) = f c + sum f (suc c) n

pub sum_le : (f g : ℕ → ℕ) → ((c : ℕ) → f c ≤ g c) → (c n : ℕ) → sum f c n ≤ sum g c n
unfolding sum
sum_le f g h c zero = omega arith
sum_le f g h c (suc n) = omega (arith, h c, sum_le f g h (suc c) n)

pub sum_add : (f g : ℕ → ℕ) (c n : ℕ) → sum (λ k. f k + g k) c n ≡ sum f c n + sum g c n
unfolding sum
sum_add f g c zero = refl
sum_add f g c (suc n) = omega (arith, sum_add f g (suc c) n)

pub sum_zero : (c n : ℕ) → sum (λ k. 0) c n ≡ 0
unfolding sum
sum_zero c zero = refl
sum_zero c (suc n) = omega (arith, sum_zero (suc c) n)

-- the value v at q and nothing elsewhere
sum_past : (q v c n : ℕ) → q < c → sum (λ p. cond (eqb q p) v 0) c n ≡ 0
unfolding sum
sum_past q v c zero h = refl
sum_past q v c (suc n) h = rw (ne_eqb q c (omega arith)) (omega (arith, sum_past q v (suc c) n (omega arith)))

pub sum_point : (q v c n : ℕ) → sum (λ p. cond (eqb q p) v 0) c n ≤ v
unfolding sum
sum_point q v c zero = omega arith
sum_point q v c (suc n) = split (eqb q c)
    (λ t. rw t (omega (arith, sum_past q v (suc c) n (omega (arith, eqb-true q c t)))))
    (λ t. rw t (omega (arith, sum_point q v (suc c) n)))

-- once where q stands among the numbers
pub sum_at : (q v c n : ℕ) → c ≤ q → q < c + n → sum (λ p. cond (eqb q p) v 0) c n ≡ v
unfolding sum
sum_at q v c zero a b = absurd (omega arith)
sum_at q v c (suc n) a b = split (eqb q c)
    (λ t. rw t (omega (arith, sum_past q v (suc c) n (omega (arith, eqb-true q c t)))))
    (λ t. rw t (omega (arith, sum_at q v (suc c) n (omega (arith, eqb-false q c t)) (omega arith))))

pub sum_same : (f g : ℕ → ℕ) (c n : ℕ) → ((k : ℕ) → c ≤ k → k < c + n → f k ≡ g k) → sum f c n ≡ sum g c n
unfolding sum
sum_same f g c zero h = refl
sum_same f g c (suc n) h = omega (arith, h c (omega arith) (omega arith), sum_same f g (suc c) n (λ k a b. h k (omega arith) (omega arith)))
