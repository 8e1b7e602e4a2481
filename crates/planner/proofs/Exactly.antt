-- When a test of the promises holds, in the words of document 01's table.
-- Assumes nothing.
use Prim.Native.Nat.{ℕ, ◌*◌, ◌≤◌, ◌<◌}
use mathlib.Core.Path.{◌≡◌}
use mathlib.Core.Logic.{◌≢◌, ◌⊎◌, inl, inr, ⊎_elim}
use mathlib.Core.Bool.{true, false, ◌||◌}
use mathlib.Core.List.{List}
use lib.ListN.{length}
use lib.Dec.{ltb, eqb}
use borrow.Author.Tests.{ltb-true, lt-ltb, eqb-true, eqb-false, eq-eqb, ne_eqb, not-true, not-false}
use Rattle.paper.proofs.Either.{either, or_true, or_left, or_right}
use Rattle.paper.proofs.Exactly.{Exactly, not_below, nor_exactly}
use Rattle.controller.specs.Run.{BusCycle}
use Rattle.planner.specs.Pictures.{misfit}
use Rattle.planner.specs.Sent.{too_short}

-- ---- 1: a picture is not nine pages

abbrev pub WrongSize : ℕ → List ℕ → List ℕ → Type 0
WrongSize W r w = (length r ≢ 9 * W) ⊎ (length w ≢ 9 * W)

abbrev pub RightSize : ℕ → List ℕ → List ℕ → Type 0
RightSize W r w = (length r ≡ 9 * W) × (length w ≡ 9 * W)

pub misfit_yes : (W : ℕ) (a : List ℕ) → Exactly (misfit W a ≡ true) (length a ≢ 9 * W)
unfolding misfit
misfit_yes W a = (λ e. eqb-false (length a) (9 * W) (not-true (eqb (length a) (9 * W)) e), λ h. rw (ne_eqb (length a) (9 * W) h))

pub misfit_no : (W : ℕ) (a : List ℕ) → Exactly (misfit W a ≡ false) (length a ≡ 9 * W)
unfolding misfit
misfit_no W a = (λ e. eqb-true (length a) (9 * W) (not-false (eqb (length a) (9 * W)) e), λ h. rw (eq-eqb (length a) (9 * W) h))

pub wrong_size_lem : (W : ℕ) (r w : List ℕ) → Exactly ((misfit W r || misfit W w) ≡ true) (WrongSize W r w)
wrong_size_lem W r w = (
  λ e. ⊎_elim (λ t. inl ((misfit_yes W r).0 t)) (λ t. inr ((misfit_yes W w).0 t)) (either (misfit W r) (misfit W w) e),
  ⊎_elim (λ h. or_true (misfit W r) (misfit W w) (inl ((misfit_yes W r).1 h))) (λ h. or_true (misfit W r) (misfit W w) (inr ((misfit_yes W w).1 h))),
)

pub right_size : (W : ℕ) (r w : List ℕ) → Exactly ((misfit W r || misfit W w) ≡ false) (RightSize W r w)
right_size W r w = (
  λ e. ((misfit_no W r).0 (or_left (misfit W r) (misfit W w) e), (misfit_no W w).0 (or_right (misfit W r) (misfit W w) e)),
  λ h. rw ((misfit_no W r).1 h.0, (misfit_no W w).1 h.1),
)

-- ---- 5: either output is shorter than the stream needs

abbrev pub ShortOutput : ℕ → List ℕ → List ℕ → Type 0
ShortOutput need out kinds = (length out < need) ⊎ (length kinds < need)

pub short_output_lem : (s : List BusCycle) (out kinds : List ℕ) (need : ℕ) → length s ≡ need
    → Exactly (too_short s out kinds ≡ true) (ShortOutput need out kinds)
unfolding too_short
short_output_lem s out kinds need known = rw known (
  λ e. ⊎_elim (λ t. inl (ltb-true (length out) need t)) (λ t. inr (ltb-true (length kinds) need t)) (either (ltb (length out) need) (ltb (length kinds) need) e),
  ⊎_elim
      (λ h. or_true (ltb (length out) need) (ltb (length kinds) need) (inl (lt-ltb (length out) need h)))
      (λ h. or_true (ltb (length out) need) (ltb (length kinds) need) (inr (lt-ltb (length kinds) need h))),
)

-- and neither is

abbrev pub LongOutput : ℕ → List ℕ → List ℕ → Type 0
LongOutput need out kinds = (need ≤ length out) × (need ≤ length kinds)

pub long_output : (s : List BusCycle) (out kinds : List ℕ) (need : ℕ) → length s ≡ need
    → Exactly (too_short s out kinds ≡ false) (LongOutput need out kinds)
unfolding too_short
long_output s out kinds need known = rw known (nor_exactly (ltb (length out) need) (ltb (length kinds) need) (not_below need) (not_below need))
