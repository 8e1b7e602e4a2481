-- Getting past equal columns, a block or a column at a time.
-- Assumes nothing.
use Prim.Native.Nat.{ℕ, ◌+◌, ◌-◌, ◌≤◌, ◌<◌}
use mathlib.Core.Path.{◌≡◌}
use mathlib.Core.Bool.{Bool, true, false}
use native.Mathlib.Omega.{arith}
use Rattle.paper.proofs.Cases.{less}
use Rattle.streams.proofs.Equal.{all_equal, equal_columns}
use Rattle.planner.specs.Equal.{Past}

module _ {d : ℕ → Bool} {W : ℕ} where
  -- past no column yet
  pub past_none : {c : ℕ} → c ≤ W → Past d W c c
  past_none h = (omega arith, h, λ k a b. absurd (omega arith))

  -- past some, and past those after them
  pub past_both : {c e r : ℕ} → Past d W c e → Past d W e r → Past d W c r
  past_both {c} {e} {r} p q =
      (omega (arith, p.0, q.0), q.1, λ k a b. less k e (λ h. p.2 k a h) (λ h. q.2 k h b))

  -- past one more
  pub past_one : {c e : ℕ} → Past d W c e → e < W → d e ≡ false → Past d W c (e + 1)
  past_one {c} {e} p h t =
      past_both p (omega arith, omega arith, λ k a b. let z : k ≡ e = omega arith in rw z t)

  -- past a whole block
  pub past_block : {c e : ℕ} (n : ℕ) → Past d W c e → e + n ≤ W → all_equal d e (e + n - e) ≡ true → Past d W c (e + n)
  past_block {c} {e} n p h t = past_both p (omega arith, h, equal_columns d e (e + n) (omega arith) t)
