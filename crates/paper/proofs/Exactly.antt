-- One thing exactly if another, what tests stand for, and which of some tests in a row gives a number.
-- Assumes nothing.
use Prim.Native.Nat.{ℕ, ◌≤◌, ◌<◌}
use mathlib.Core.Path.{◌≡◌, refl, sym, subst, ◌∙◌}
use mathlib.Core.Logic.{◌≢◌, ◌⊎◌, inl, inr, ⊎_elim}
use mathlib.Core.Bool.{Bool, true, false, cond, ◌||◌}
use lib.Dec.{T, ltb}
use borrow.Author.Tests.{ltb-true, ltb-false, lt-ltb, le-ltb}
use Rattle.paper.proofs.Either.{either, or_true, neither}

-- the one holds exactly if the other does
abbrev pub Exactly : Type 0 → Type 0 → Type 0
Exactly A B = (A → B) × (B → A)

pub then : {A B C : Type 0} → Exactly A B → Exactly B C → Exactly A C
then f g = (λ x. g.0 (f.0 x), λ x. f.1 (g.1 x))

pub both : {A B C D : Type 0} → Exactly A B → Exactly C D → Exactly (A × C) (B × D)
both f g = (λ x. (f.0 x.0, g.0 x.1), λ x. (f.1 x.0, g.1 x.1))

pub same_number : {m n k : ℕ} → m ≡ n → Exactly (m ≡ k) (n ≡ k)
same_number e = (λ f. sym e ∙ f, λ f. e ∙ f)

-- ---- what a test stands for

pub below : (n : ℕ) {m : ℕ} → Exactly (ltb m n ≡ true) (m < n)
below n {m} = (ltb-true m n, lt-ltb m n)

pub not_below : (n : ℕ) {m : ℕ} → Exactly (ltb m n ≡ false) (n ≤ m)
not_below n {m} = (ltb-false m n, le-ltb m n)

-- and when it has the other answer
pub no_exactly : (t : Bool) {A : Type 0} → Exactly (t ≡ true) A → Exactly (t ≡ false) (A → ⊥)
no_exactly true f = (λ e a. subst T e tt, λ h. absurd (h (f.0 refl)))
no_exactly false f = (λ e a. subst T (sym (f.1 a)) tt, λ h. refl)

pub yes_exactly : (t : Bool) {A : Type 0} → Exactly (t ≡ false) A → Exactly (t ≡ true) (A → ⊥)
yes_exactly true f = (λ e a. subst T (f.1 a) tt, λ h. refl)
yes_exactly false f = (λ e a. subst T (sym e) tt, λ h. absurd (h (f.0 refl)))

-- two tests: either of them, and neither
pub or_exactly : (a b : Bool) {A B : Type 0} → Exactly (a ≡ true) A → Exactly (b ≡ true) B → Exactly (a || b ≡ true) (A ⊎ B)
or_exactly a b f g = (
  λ e. ⊎_elim (λ t. inl (f.0 t)) (λ t. inr (g.0 t)) (either a b e),
  λ h. or_true a b (⊎_elim (λ t. inl (f.1 t)) (λ t. inr (g.1 t)) h),
)

pub nor_exactly : (a b : Bool) {A B : Type 0} → Exactly (a ≡ false) A → Exactly (b ≡ false) B → Exactly (a || b ≡ false) (A × B)
nor_exactly a b f g = (λ e. let n = neither a b e in (f.0 n.0, g.0 n.1), λ h. rw (f.1 h.0, g.1 h.1))

-- ---- tests in a row: the first that holds gives its number

-- two of them with one number are one test
pub joined : (a b : Bool) (m rest : ℕ) → cond a m (cond b m rest) ≡ cond (a || b) m rest
joined true b m rest = refl
joined false b m rest = refl

-- this one gives it
pub here : (t : Bool) (m rest : ℕ) → rest ≢ m → Exactly (cond t m rest ≡ m) (t ≡ true)
here true m rest h = (λ e. refl, λ e. refl)
here false m rest h = (λ e. absurd (h e), λ e. absurd (subst T (sym e) tt))

-- one after it gives it
pub past : (t : Bool) (m rest k : ℕ) → m ≢ k → Exactly (cond t m rest ≡ k) ((t ≡ false) × (rest ≡ k))
past true m rest k h = (λ e. absurd (h e), λ e. absurd (subst T e.0 tt))
past false m rest k h = (λ e. (refl, e), λ e. e.1)

-- none gives it
pub nowhere : (t : Bool) (m rest k : ℕ) → m ≢ k → rest ≢ k → cond t m rest ≢ k
nowhere true m rest k h l = h
nowhere false m rest k h l = l

pub among : (t : Bool) (m rest n : ℕ) → n ≡ cond t m rest → (n ≡ m) ⊎ (n ≡ rest)
among true m rest n e = inl e
among false m rest n e = inr e

-- one test gives a number, and nothing else does
pub only : (t : Bool) (n : ℕ) → n ≢ 0 → Exactly (cond t n 0 ≡ 0) (t ≡ false)
only t n h = let f = past t n 0 0 h in (λ e. (f.0 e).0, λ e. f.1 (e, refl))
