-- A text begins with some bytes exactly if they stand in front of it, and byte by byte.
-- Assumes nothing.
use Prim.Native.Nat.{ℕ, ◌+◌}
use mathlib.Core.Path.{◌≡◌, refl, sym, ap, subst, ◌∙◌}
use mathlib.Core.Logic.{◌≢◌}
use mathlib.Core.Bool.{true, ◌&&◌}
use mathlib.Core.List.{List, [], ◌∷◌, ◌++◌}
use lib.Dec.{T, eqb}
use lib.ListN.{length, get_or, drop}
use lib.Seq.{get_or-drop, drop-drop}
use native.Mathlib.Nat.{add-zero}
use borrow.Author.Tests.{eqb-true, eq-eqb, ne_eqb}
use Rattle.paper.proofs.Cases.{split}
use Rattle.recorder.specs.Line.{starts_with}

-- they stand there, and then the rest of it
pub starts_front : (l t : List ℕ) → starts_with l t ≡ true → t ≡ l ++ drop (length l) t
unfolding starts_with
starts_front [] t e = refl
starts_front (x ∷ l) [] e = absurd (subst T (sym e) tt)
starts_front (x ∷ l) (y ∷ t) e = split (eqb y x)
    (λ a. rw (eqb-true y x a) (ap (λ (z : List ℕ). x ∷ z) (starts_front l t (rw a at e))))
    (λ a. absurd (subst T (sym (rw a at e)) tt))

pub front_starts : (l t : List ℕ) → starts_with l (l ++ t) ≡ true
unfolding starts_with
front_starts [] t = refl
front_starts (x ∷ l) t = rw (eq-eqb x x refl) (front_starts l t)

-- ---- from a place on, byte by byte, where no byte is 0

starts_byte : (x : ℕ) (l t : List ℕ) → x ≢ 0 → starts_with (x ∷ l) t ≡ (eqb (get_or t 0 0) x && starts_with l (drop 1 t))
unfolding starts_with
starts_byte x l [] h = rw (ne_eqb 0 x (λ e. h (sym e))) refl
starts_byte x l (y ∷ t) h = refl

pub starts_at : (t : List ℕ) (i x : ℕ) (l : List ℕ) → x ≢ 0 → starts_with (x ∷ l) (drop i t) ≡ (eqb (get_or t i 0) x && starts_with l (drop (i + 1) t))
starts_at t i x l h =
    starts_byte x l (drop i t) h
    ∙ rw (get_or-drop i t 0 0, drop-drop 1 i t, add-zero) refl

pub starts_none : (t : List ℕ) → starts_with [] t ≡ true
unfolding starts_with
starts_none t = refl
