-- Lists of pages, counted. A sum over a list is one over the nine pages, each as often as it stands there; and the nine pages, rising,
-- stand there once each.
-- Assumes nothing.
use Prim.Native.Nat.{ℕ, zero, suc, ◌+◌, ◌*◌, ◌≤◌, ◌<◌}
use mathlib.Core.Path.{◌≡◌, refl, sym, ◌∙◌}
use mathlib.Core.Bool.{cond}
use mathlib.Core.List.{List, [], ◌∷◌}
use native.Mathlib.Nat.{add-mul, zero-mul}
use native.Mathlib.Omega.{arith}
use lib.Dec.{eqb}
use borrow.Author.Tests.{eqb-true, eqb-false, eq-eqb, ne_eqb}
use Rattle.paper.proofs.Cases.{split, less}
use Rattle.streams.specs.Order.{times, rising}
use Rattle.streams.proofs.Sums.{sum, sum_add, sum_zero, sum_at, sum_same}

-- ---- how often a page stands in a list

pub times_here : (p : ℕ) (order : List ℕ) → times p (p ∷ order) ≡ suc (times p order)
unfolding times
times_here p order = rw (eq-eqb p p refl) (omega arith)

pub times_more : (p q : ℕ) (order : List ℕ) → times p order ≤ times p (q ∷ order)
unfolding times
times_more p q order = omega arith

-- no page above 8
abbrev pub Paged : List ℕ → Type 0
Paged order = (p : ℕ) → 9 ≤ p → times p order ≡ 0

pub paged_none : Paged []
unfolding times
paged_none p l = refl

pub paged_next : (q : ℕ) (order : List ℕ) → q ≤ 8 → Paged order → Paged (q ∷ order)
unfolding times
paged_next q order h g p l = rw (ne_eqb q p (omega arith)) (omega (arith, g p l))

pub paged_first : (q : ℕ) (order : List ℕ) → Paged (q ∷ order) → q ≤ 8
paged_first q order h = less q 9 (λ l. omega arith) (λ l. absurd (omega (arith, h q l, times_here q order)))

pub paged_rest : (q : ℕ) (order : List ℕ) → Paged (q ∷ order) → Paged order
paged_rest q order h p l = omega (arith, h p l, times_more p q order)

-- ---- sums

-- f of each page in the list
unfoldable pub sum_in : (ℕ → ℕ) → List ℕ → ℕ
sum_in f [] = 0
sum_in f (p ∷ order) = f p + sum_in f order

point : (f : ℕ → ℕ) (q p t : ℕ) → (cond (eqb q p) 1 0 + t) * f p ≡ cond (eqb q p) (f q) 0 + t * f p
point f q p t = split (eqb q p)
    (λ e. rw e (rw (eqb-true q p e) (omega (arith, add-mul 1 t (f p)))))
    (λ e. rw e (omega (arith, add-mul 0 t (f p))))

-- a sum over the list is one over the nine pages, each as often as it stands there
pub counted : (f : ℕ → ℕ) (order : List ℕ) → Paged order → sum_in f order ≡ sum (λ p. times p order * f p) 0 9
unfolding sum_in times
counted f [] h = sym (sum_same (λ p. 0 * f p) (λ p. 0) 0 9 (λ k a b. zero-mul (f k)) ∙ sum_zero 0 9)
counted f (q ∷ order) h =
    omega (
      arith,
      counted f order (paged_rest q order h),
      sum_same (λ p. times p (q ∷ order) * f p) (λ p. cond (eqb q p) (f q) 0 + times p order * f p) 0 9 (λ k a b. point f q k (times k order)),
      sum_add (λ p. cond (eqb q p) (f q) 0) (λ p. times p order * f p) 0 9,
      sum_at q (f q) 0 9 (omega arith) (omega (arith, paged_first q order h)),
    )

-- ---- the pages in rising order

rising_under : (q p n : ℕ) → q < p → times q (rising p n) ≡ 0
unfolding rising times
rising_under q p zero h = refl
rising_under q p (suc n) h = rw (ne_eqb p q (omega arith)) (omega (arith, rising_under q (suc p) n (omega arith)))

pub rising_past : (q p n : ℕ) → p + n ≤ q → times q (rising p n) ≡ 0
unfolding rising times
rising_past q p zero h = refl
rising_past q p (suc n) h = rw (ne_eqb p q (omega arith)) (omega (arith, rising_past q (suc p) n (omega arith)))

pub rising_once : (q p n : ℕ) → p ≤ q → q < p + n → times q (rising p n) ≡ 1
unfolding rising times
rising_once q p zero a b = absurd (omega arith)
rising_once q p (suc n) a b = split (eqb p q)
    (λ t. rw t (omega (arith, rising_under q (suc p) n (omega (arith, eqb-true p q t)))))
    (λ t. rw t (omega (arith, rising_once q (suc p) n (omega (arith, eqb-false p q t)) (omega arith))))
