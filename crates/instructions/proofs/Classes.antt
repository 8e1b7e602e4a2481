-- The class of every byte of a range, by computing it at each: no byte is looked at one by one.
-- Assumes nothing.
use Prim.Native.Nat.{ℕ, ◌+◌, ◌-◌, ◌≤◌, ◌<◌}
use mathlib.Core.Path.{◌≡◌, sym, subst}
use mathlib.Core.Bool.{Bool, true, false, ◌||◌}
use native.Mathlib.Omega.{arith}
use lib.Dec.{T, eqb, eqb→eq}
use Rattle.paper.proofs.Every.{every, at}
use Rattle.instructions.specs.Read.{class_of}

-- each of the `count` bytes from `first` on is of the class, `but` aside
abbrev pub alike : ℕ → ℕ → ℕ → (ℕ → Bool) → Bool
alike class first count but = every (λ x. but (first + x) || eqb (class_of (first + x)) class) 0 count

other : (a b : Bool) → T (a || b) → a ≡ false → T b
other true b t e = absurd (subst T e tt)
other false b t e = t

pub of_class : (class first count : ℕ) (but : ℕ → Bool) (b : ℕ) → T (alike class first count but) → b < first + count → first ≤ b → but b ≡ false
    → class ≡ class_of b
of_class class first count but b t high low e =
    let i : first + (b - first) ≡ b = omega arith in
    sym (eqb→eq (class_of b) class (other (but b) (eqb (class_of b) class)
    (subst (λ (x : ℕ). T (but x || eqb (class_of x) class)) i (at (λ x. but (first + x) || eqb (class_of (first + x)) class) count t (b - first) (omega arith))) e))
