-- Equal columns. An equal page has no work: it costs no byte, and the walk over it sends nothing. Whatever a column that does not
-- differ leaves as it is, many of them leave as it is. And how a loop finds out that none differs, looking at every one and stopping
-- at none.
-- Assumes nothing.
use Prim.Native.Nat.{ℕ, zero, suc, ◌+◌, ◌-◌, ◌≤◌, ◌<◌}
use mathlib.Core.Path.{◌≡◌, sym, ◌∙◌}
use mathlib.Core.Bool.{Bool, true, false, not, ◌&&◌, and-true, and-false}
use mathlib.Core.List.{List, []}
use native.Mathlib.Numerals.{add-one}
use native.Mathlib.Omega.{arith}
use lib.Dec.{eqb}
use borrow.Author.Tests.{eqb-true, ne_eqb}
use Rattle.paper.proofs.Cases.{split, less}
use Rattle.paper.proofs.Left.{one_fewer, none_left}
use Rattle.streams.specs.Picture.{differs}
use Rattle.streams.specs.Length.{differing, page_length}
use Rattle.streams.specs.Shape.{Equal}
use Rattle.streams.specs.Walk.{walk}
use Rattle.streams.proofs.Length.{none_differing}
use Rattle.streams.proofs.Grouping.{group_walk, group_none}

-- what stays at each equal column below W stays over all of them
pub equal_passed : {A : Type 0} (f : ℕ → A) (d : ℕ → Bool) (W : ℕ) → ((k : ℕ) → k < W → d k ≡ false → f k ≡ f (k + 1))
    → (c e : ℕ) → c ≤ e → e ≤ W → Equal d c e → f c ≡ f e
equal_passed f d W stays c zero a b h = let z : c ≡ 0 = omega arith in rw z
equal_passed f d W stays c (suc e) a b h = less e c
    (λ l. let z : c ≡ suc e = omega arith in rw z)
    (λ l. equal_passed f d W stays c e (omega arith) (omega arith) (λ k x y. h k x (omega arith))
    ∙ (let s = stays e (omega arith) (h e (omega arith) (omega arith)) in simp add-one at s))

module _ (d : ℕ → Bool) where
  -- ---- none of the n columns from c on differs, found column by column

  abbrev pub all_equal : ℕ → ℕ → Bool
  all_equal c n = eqb (differing d c n) 0

  turn : (same : Bool) (c n : ℕ) → ((same && not (d c)) && all_equal (suc c) n) ≡ (same && all_equal c (suc n))
  unfolding differing
  turn same c n = split (d c)
      (λ t. rw t (rw (and-false same, ne_eqb (1 + differing d (suc c) n) 0 (λ e. omega arith), and-false same)))
      (λ t. let z : 0 + differing d (suc c) n ≡ differing d (suc c) n = omega arith in rw t (rw (and-true same, z)))

  -- before column c: all so far are the same, and the rest up to e will tell
  pub equal_next : (e : ℕ) (same : Bool) (c : ℕ) → c < e
      → ((same && not (d c)) && all_equal (c + 1) (e - (c + 1))) ≡ (same && all_equal c (e - c))
  equal_next e same c h = rw (one_fewer c e h) (simp add-one (turn same c (e - suc c)))

  pub equal_end : (e : ℕ) (same : Bool) (c : ℕ) → e ≤ c → (same && all_equal c (e - c)) ≡ same
  unfolding differing
  equal_end e same c h = rw (none_left c e h) (and-true same)

  -- ---- where that is so

  pub equal_columns : (c e : ℕ) → c ≤ e → all_equal c (e - c) ≡ true → Equal d c e
  equal_columns c e l h k a b = none_differing d c (e - c) k (eqb-true (differing d c (e - c)) 0 h) a (omega arith)

  pub equal_length : (W : ℕ) → all_equal 0 W ≡ true → page_length d W ≡ 0
  unfolding page_length
  equal_length W h = rw h

  pub equal_page : (W : ℕ) → all_equal 0 W ≡ true → Equal d 0 W
  equal_page W h = let z : W - 0 ≡ W = omega arith in equal_columns 0 W (omega arith) (rw z h)

-- and an equal page's walk
pub equal_walk : (W : ℕ) (r w : List ℕ) (p : ℕ) → all_equal (differs W r w p) 0 W ≡ true → walk W w p (differs W r w p) false 0 0 W ≡ []
equal_walk W r w p h = sym (group_walk W r w p) ∙ (group_none W r w p).1 (equal_page (differs W r w p) W h)
