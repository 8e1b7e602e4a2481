-- A list that a rule fills, a loop that fills one, and a list that strays nowhere from its rule.
-- Assumes nothing.
use mathlib.Core.Path.{◌≡◌, ◌∙◌, refl, ap, sym}
use mathlib.Core.Bool.{Bool, true, false}
use mathlib.Core.List.{List, [], ◌∷◌}
use Prim.Native.Nat.{ℕ, zero, suc, ◌+◌, ◌<◌}
use native.Mathlib.Nat.{add-zero, zero-add, add-suc, suc-add, le_of_suc-le-suc, not-suc-le-zero}
use native.Mathlib.Omega.{arith}
use lib.ListN.{length, get_or, set, replicate}
use lib.Seq.{ext_get_or, get_or-set_same, get_or-set_other}
use lib.Dec.{eqb}
use borrow.Author.Count.{below_more}
use borrow.Author.Tests.{eqb-true}
use Rattle.paper.specs.Listed.{listed, unless, astray}

from : (f : ℕ → ℕ) (n i k : ℕ) → k < n → get_or (listed f i n) k 0 ≡ f (i + k)
from f zero i k h = absurd (not-suc-le-zero h)
from f (suc n) i zero h = ap f (sym (add-zero i))
from f (suc n) i (suc k) h = from f n (suc i) k (le_of_suc-le-suc h) ∙ ap f (suc-add i k ∙ sym (add-suc i k))

-- the entry at k is the rule's value at k
pub at : (f : ℕ → ℕ) (n k : ℕ) → k < n → get_or (listed f 0 n) k 0 ≡ f k
at f n k h = from f n 0 k h ∙ ap f (zero-add k)

pub length_listed : (f : ℕ → ℕ) (i n : ℕ) → length (listed f i n) ≡ n
length_listed f i zero = refl
length_listed f i (suc n) = ap suc (length_listed f (suc i) n)

-- the next entry is stored
pub more : (f : ℕ → ℕ) (l : List ℕ) (i v : ℕ) → i < length l → v ≡ f i → ((k : ℕ) → k < i → get_or l k 0 ≡ f k)
    → (k : ℕ) → k < i + 1 → get_or (set l i v) k 0 ≡ f k
more f l i v h e all =
    below_more (λ (k : ℕ). get_or (set l i v) k 0 ≡ f k) i
    (λ k lt. get_or-set_other l i k v 0 (λ q. omega arith) ∙ all k lt)
    (get_or-set_same l i v 0 h ∙ e)

-- every entry is stored
pub whole : (f : ℕ → ℕ) (l : List ℕ) (n : ℕ) → length l ≡ n → ((k : ℕ) → k < n → get_or l k 0 ≡ f k) → l ≡ listed f 0 n
whole f l n e all =
    ext_get_or 0 l (listed f 0 n) (e ∙ sym (length_listed f 0 n))
    (λ i h. let g : i < n = omega arith in all i g ∙ sym (at f n i g))

-- a rule that gives one number fills a list of that number
pub listed_same : (f : ℕ → ℕ) (a i n : ℕ) → ((k : ℕ) → f k ≡ a) → listed f i n ≡ replicate n a
listed_same f a i zero h = refl
listed_same f a i (suc n) h = rw (h i, listed_same f a (suc i) n h)

unless_none : (t : Bool) (i : ℕ) (l : List ℕ) → unless t i l ≡ [] → (t ≡ true) × (l ≡ [])
unless_none true i l e = (refl, e)
unless_none false i l e = absurd (let z = ap length e in omega arith)

-- a list that strays nowhere is the one that the rule fills
pub filled : (f : ℕ → ℕ) (i : ℕ) (l : List ℕ) → astray f i l ≡ [] → l ≡ listed f i (length l)
filled f i [] e = refl
filled f i (x ∷ l) e =
    let h = unless_none (eqb x (f i)) i (astray f (suc i) l) e in
    rw (eqb-true x (f i) h.0, ← filled f (suc i) l h.1)
