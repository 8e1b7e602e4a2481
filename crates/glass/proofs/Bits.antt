-- A byte from its bits, and its bits.
-- Assumes nothing.
use mathlib.Core.Path.{◌≡◌, refl, subst}
use mathlib.Core.Bool.{Bool, true, false, cond}
use Prim.Native.Nat.{ℕ, zero, suc, ◌+◌, ◌*◌, ◌/◌, ◌%◌, ◌^◌, ◌≤◌, ◌<◌}
use native.Mathlib.Nat.{two-pow-succ, one-mul, mod-eq_of_lt, pow-le-pow_right, one-le-pow, pow-succ', div-one, div-eq_of_lt, div-div-eq-div-mul, le_of_suc-le-suc, not-suc-le-zero}
use native.Mathlib.Numerals.{add-one}
use native.Mathlib.Omega.{arith}
use lib.Dec.{lit<, eqb}
use borrow.Author.Tests.{eq-eqb, ne_eqb}
use Rattle.paper.proofs.Cases.{less}
use Rattle.glass.specs.Bit.{bit_of, sum_of}

one_more : (b : Bool) (x p q : ℕ) → x < p → q ≡ p + p → x + cond b p 0 < q
one_more true x p q h e = omega arith
one_more false x p q h e = omega arith

below : (f : ℕ → Bool) (n : ℕ) → sum_of f n < 2 ^ n
unfolding sum_of
below f zero = lit< tt
below f (suc n) = one_more (f n) (sum_of f n) (2 ^ n) (2 ^ suc n) (below f n) (two-pow-succ n)

-- up to eight bits fit a byte
fits : (f : ℕ → Bool) (n : ℕ) → n ≤ 8 → sum_of f n < 256
fits f n h = let p : 2 ^ n ≤ 256 = pow-le-pow_right {n = 2} (lit< tt) h in omega (arith, below f n)

-- 1 shifted up within a byte
pub shifted_up : (b : ℕ) → b < 8 → 1 * 2 ^ b % 2 ^ 8 ≡ 2 ^ b
shifted_up b h =
    let p : 2 ^ suc b ≤ 256 = pow-le-pow_right {n = 2} (lit< tt) h in
    rw one-mul (mod-eq_of_lt (omega (arith, two-pow-succ b, one-le-pow b 2 (lit< tt))))

-- a byte has no bit from 8 on
pub no_bit : (x b : ℕ) → x < 256 → 7 < b → bit_of x b ≡ false
unfolding bit_of
no_bit x b h lt =
    let p : 256 ≤ 2 ^ b = pow-le-pow_right {n = 2} (lit< tt) lt in
    let less : x < 2 ^ b = omega arith in
    rw (div-eq_of_lt less)

-- one more bit, as the code counts
pub step : (f : ℕ → Bool) (n : ℕ) {sum w : ℕ} {on : Bool} → sum ≡ sum_of f n → on ≡ f n → w ≡ cond on (2 ^ n) 0 → sum + w ≡ sum_of f (n + 1)
unfolding sum_of
step f n p q e = rw (add-one, p, e, q)

pub room : (f : ℕ → Bool) (n : ℕ) {sum w : ℕ} {on : Bool} → sum ≡ sum_of f n → on ≡ f n → w ≡ cond on (2 ^ n) 0 → n < 8 → sum + w < 256
room f n p q e h = omega (arith, step f n p q e, fits f (n + 1) (omega arith))

-- equal bits have equal sums
pub sum_same : (f g : ℕ → Bool) (n : ℕ) → ((k : ℕ) → k < n → f k ≡ g k) → sum_of f n ≡ sum_of g n
unfolding sum_of
sum_same f g zero h = refl
sum_same f g (suc n) h = rw (sum_same f g n (λ k lt. h k (omega arith)), h n (omega arith))

-- bits of which none from n on is set
pub lowest : (f : ℕ → Bool) (n k : ℕ) → n ≤ k → ((b : ℕ) → n ≤ b → b < k → f b ≡ false) → sum_of f k < 2 ^ n
unfolding sum_of
lowest f n zero h e = omega (arith, one-le-pow n 2 (lit< tt))
lowest f n (suc k) h e = less n (suc k)
    (λ l. rw (e k (omega arith) (omega arith)) (omega (arith, lowest f n k (omega arith) (λ b a c. e b a (omega arith)))))
    (λ l. subst (λ (x : ℕ). sum_of f (suc k) < 2 ^ x) (let q : suc k ≡ n = omega arith in q) (below f (suc k)))

-- the lowest bit, and twice the others
shifted : (f : ℕ → Bool) (n : ℕ) → sum_of f (suc n) ≡ cond (f 0) 1 0 + 2 * sum_of (λ k. f (suc k)) n
unfolding sum_of
shifted f zero = omega arith
shifted f (suc n) = one (f (suc n)) _ (cond (f 0) 1 0) (sum_of (λ k. f (suc k)) n) (2 ^ n) _ (shifted f n) (two-pow-succ n)
  where
    one : (b : Bool) (x c y p q : ℕ) → x ≡ c + 2 * y → q ≡ p + p → x + cond b q 0 ≡ c + 2 * (y + cond b p 0)
    one true x c y p q h e = omega arith
    one false x c y p q h e = omega arith

low : (b : Bool) (y : ℕ) → eqb ((cond b 1 0 + 2 * y) % 2) 1 ≡ b
low true y = eq-eqb ((1 + 2 * y) % 2) 1 (omega arith)
low false y = ne_eqb ((0 + 2 * y) % 2) 1 (λ e. omega arith)

half : (b : Bool) (y : ℕ) → (cond b 1 0 + 2 * y) / 2 ≡ y
half true y = omega arith
half false y = omega arith

-- bit b of the sum is f's
pub bit_is : (f : ℕ → Bool) (n b : ℕ) → b < n → bit_of (sum_of f n) b ≡ f b
unfolding bit_of
bit_is f zero b h = absurd (not-suc-le-zero h)
bit_is f (suc n) zero h = rw (shifted f n, div-one) (low (f 0) (sum_of (λ k. f (suc k)) n))
bit_is f (suc n) (suc b) h =
    rw (shifted f n, pow-succ' 2 b, ← div-div-eq-div-mul (cond (f 0) 1 0 + 2 * sum_of (λ k. f (suc k)) n) 2 (2 ^ b), half (f 0) (sum_of (λ k. f (suc k)) n))
    (bit_is (λ k. f (suc k)) n b (le_of_suc-le-suc h))
