-- Three tests in a row, as several calls have them: a wrong size gives 1, what is outside its field 6, an output that is too short 5,
-- and where no test holds the number is 0. Each number is given exactly if its test holds and none before it.
-- Assumes nothing.
use Prim.Native.Nat.{ℕ}
use mathlib.Core.Path.{◌≡◌}
use mathlib.Core.Logic.{◌≢◌, ◌⊎◌, inl, inr, ⊎_elim}
use mathlib.Core.Bool.{Bool, true, false, cond}
use native.Mathlib.Omega.{arith}
use Rattle.paper.proofs.Exactly.{Exactly, then, both, here, past, nowhere, among, only}

-- a thing exactly if itself
as_it_is : {A : Type 0} → Exactly A A
as_it_is = (λ e. e, λ e. e)

module _ (wrong outside short : Bool) where
  abbrev pub threefold : ℕ
  threefold = cond wrong 1 (cond outside 6 (cond short 5 0))

  pub threefold_1 : Exactly (threefold ≡ 1) (wrong ≡ true)
  threefold_1 =
      here wrong 1 (cond outside 6 (cond short 5 0))
      (nowhere outside 6 (cond short 5 0) 1 (λ e. omega arith) (nowhere short 5 0 1 (λ e. omega arith) (λ e. omega arith)))

  pub threefold_6 : Exactly (threefold ≡ 6) ((wrong ≡ false) × (outside ≡ true))
  threefold_6 =
      then (past wrong 1 (cond outside 6 (cond short 5 0)) 6 (λ e. omega arith))
      (both as_it_is (here outside 6 (cond short 5 0) (nowhere short 5 0 6 (λ e. omega arith) (λ e. omega arith))))

  -- one of the last test's two numbers, behind the two tests before it
  last_test : (n : ℕ) → 1 ≢ n → 6 ≢ n → Exactly (threefold ≡ n) ((wrong ≡ false) × ((outside ≡ false) × (cond short 5 0 ≡ n)))
  last_test n h g = then (past wrong 1 (cond outside 6 (cond short 5 0)) n h) (both as_it_is (past outside 6 (cond short 5 0) n g))

  pub threefold_5 : Exactly (threefold ≡ 5) ((wrong ≡ false) × ((outside ≡ false) × (short ≡ true)))
  threefold_5 = then (last_test 5 (λ e. omega arith) (λ e. omega arith)) (both as_it_is (both as_it_is (here short 5 0 (λ e. omega arith))))

  pub threefold_0 : Exactly (threefold ≡ 0) ((wrong ≡ false) × ((outside ≡ false) × (short ≡ false)))
  threefold_0 = then (last_test 0 (λ e. omega arith) (λ e. omega arith)) (both as_it_is (both as_it_is (only short 5 (λ e. omega arith))))

  -- and there is no other number
  pub threefold_only : (n : ℕ) → n ≢ 0 → n ≡ threefold → (n ≡ 1) ⊎ ((n ≡ 6) ⊎ (n ≡ 5))
  threefold_only n h e = ⊎_elim
      inl
      (λ f. inr (⊎_elim inl (λ g. inr (⊎_elim (λ x. x) (λ z. absurd (h z)) (among short 5 0 n g))) (among outside 6 (cond short 5 0) n f)))
      (among wrong 1 (cond outside 6 (cond short 5 0)) n e)
