-- Case splits that keep what the case tells: on a test, and on an order. Either the one side holds or the other. And what holds on
-- both sides of a test.
-- Assumes nothing.
use Prim.Native.Nat.{ℕ, ◌≤◌, ◌<◌}
use mathlib.Core.Path.{◌≡◌, refl}
use mathlib.Core.Bool.{Bool, true, false, cond}
use native.Mathlib.Omega.{arith}
use native.Mathlib.Decide.{dec_lt}

pub split {ℓ} : {X : Type ℓ} (b : Bool) → (b ≡ true → X) → (b ≡ false → X) → X
split true f g = f refl
split false f g = g refl

pub less {ℓ} : {X : Type ℓ} (m n : ℕ) → (m < n → X) → (n ≤ m → X) → X
less {X = X} m n f g = go (dec_lt m n)
  where
    go : Dec (m < n) → X
    go (yes h) = f h
    go (no h) = g (omega arith)

-- what holds of both holds of the one that is chosen
pub chosen : {A : Type 0} (P : A → Type 0) (t : Bool) {x y : A} → P x → P y → P (cond t x y)
chosen P true p q = p
chosen P false p q = q
