-- Texts put one after the other, and the three ways through a number's digits.
-- Assumes nothing.
use Prim.Native.Nat.{ℕ, zero, suc, ◌+◌, ◌-◌, ◌/◌, ◌%◌, ◌≤◌, ◌<◌}
use mathlib.Core.Path.{◌≡◌, refl, sym, ap, ◌∙◌}
use mathlib.Core.List.{List, [], ◌∷◌, ◌++◌}
use native.Mathlib.Nat.{add-zero}
use native.Mathlib.Numerals.{sub-one}
use native.Mathlib.Omega.{arith}
use borrow.Author.Tests.{lt-ltb, le-ltb}
use lib.ListN.{length, set, length-append}
use lib.Seq.{sets}
use Rattle.jobs.specs.Text.{decimal_up_to, digit}
use Rattle.jobs.specs.Output.{Put}

pub sets_append : (l : List ℕ) (i : ℕ) (t u : List ℕ) → sets l i (t ++ u) ≡ sets (sets l i t) (i + length t) u
sets_append l i [] u = ap (λ (k : ℕ). sets l k u) (sym (add-zero i))
sets_append l i (a ∷ t) u =
    let e : suc i + length t ≡ i + suc (length t) = omega arith in
    sets_append (set l i a) (suc i) t u ∙ ap (λ (k : ℕ). sets (sets (set l i a) (suc i) t) k u) e

-- one text and then another is their append
pub put_then : {l m n t u : List ℕ} {at a b j k : ℕ} → Put l at t m a j → Put m a u n b k → Put l at (t ++ u) n b (j + k)
put_then {l} {m} {n} {t} {u} {at} {a} {b} p q = record {
  bytes = q.bytes ∙ ap (λ (z : List ℕ). sets z a u) p.bytes ∙ ap (λ (i : ℕ). sets (sets l at t) i u) p.place ∙ sym (sets_append l at t u);
  place = omega (arith, length-append t u, p.place, q.place);
  near = omega (arith, p.near, q.near);
}

-- the empty text
pub put_none : (l : List ℕ) (at : ℕ) → Put l at [] l at 0
put_none l at = record { bytes = refl; place = sym (add-zero at); near = omega arith }

-- a looser bound
pub put_most : {l m t : List ℕ} {at a j k : ℕ} → j ≤ k → Put l at t m a j → Put l at t m a k
put_most h p = record { bytes = p.bytes; place = p.place; near = omega (arith, p.near) }

-- ---- a number's digits: none left to put, the first of them, and the last after those before it

one_digit : (most n : ℕ) → (most ≡ 0 → ⊥) → n < 10 → decimal_up_to most n ≡ digit n ∷ []
unfolding decimal_up_to
one_digit zero n h k = absurd (h refl)
one_digit (suc f) n h k = let e : n % 10 ≡ n = omega arith in rw (lt-ltb _ _ k, e)

more_digits : (most n : ℕ) → (most ≡ 0 → ⊥) → 10 ≤ n → decimal_up_to most n ≡ decimal_up_to (most - 1) (n / 10) ++ (digit (n % 10) ∷ [])
unfolding decimal_up_to
more_digits zero n h k = absurd (h refl)
more_digits (suc f) n h k = rw (le-ltb _ _ k, sub-one)

pub put_no_digits : (l : List ℕ) (at most n : ℕ) → most ≡ 0 → Put l at (decimal_up_to most n) l at most
unfolding decimal_up_to
put_no_digits l at most n e = rw e (put_none l at)

module _ (l : List ℕ) (at most n : ℕ) (some : most ≡ 0 → ⊥) where
  pub put_one_digit : {m : List ℕ} {a d : ℕ} → n < 10 → d ≡ digit n → Put l at (d ∷ []) m a 1 → Put l at (decimal_up_to most n) m a most
  put_one_digit k e p = rw (one_digit most n some k, ← e) (put_most (omega arith) p)

  pub put_more_digits : {m o : List ℕ} {i a d : ℕ} → 10 ≤ n → d ≡ digit (n % 10)
      → Put l at (decimal_up_to (most - 1) (n / 10)) m i (most - 1) → Put m i (d ∷ []) o a 1 → Put l at (decimal_up_to most n) o a most
  put_more_digits k e p q = rw (more_digits most n some k, ← e) (put_most (omega arith) (put_then p q))
