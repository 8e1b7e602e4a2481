-- The length formula counted from the left, as a loop does: bytes so far and bytes still to pay make what the page's stretches cost,
-- and a page that sends anything has its page byte besides.
-- Assumes nothing.
use Prim.Native.Nat.{ℕ, suc, ◌+◌, ◌-◌, ◌≤◌, ◌<◌, min}
use mathlib.Core.Path.{◌≡◌, refl}
use mathlib.Core.Bool.{Bool, true, false}
use mathlib.Core.List.{List}
use native.Mathlib.Numerals.{add-one}
use native.Mathlib.Omega.{arith}
use Rattle.streams.specs.Picture.{differs}
use Rattle.streams.specs.Length.{page_length, length_from, update_length}
use Rattle.streams.specs.Tally.{to_pay, Counted}
use Rattle.streams.proofs.Cost.{page_length_pays, page_length_most}

-- ---- a page

module _ (d : ℕ → Bool) (W : ℕ) where
  pub count_none : Counted d W 0 2 0
  unfolding Counted
  count_none = let e : W - 0 ≡ W = omega arith in rw e (omega arith)

  pub count_end : (n g c : ℕ) → W ≤ c → Counted d W n g c → page_length d W ≡ min 1 n + n
  unfolding Counted to_pay
  count_end n g c l h = let e : W - c ≡ 0 = omega arith in omega (arith, rw e at h, page_length_pays d W)

  -- never more than the columns and 2
  pub count_most : (n g c : ℕ) → Counted d W n g c → n ≤ W + 2
  unfolding Counted
  count_most n g c h = omega (arith, page_length_pays d W, page_length_most d W)

  module _ (n g c : ℕ) (more : c < W) (counted : Counted d W n g c) where
    -- a column fewer is left
    now : n + to_pay d g c (suc (W - suc c)) ≡ to_pay d 2 0 W
    unfolding Counted
    now = let e : suc (W - suc c) ≡ W - c = omega arith in rw e counted

    -- an equal column: the gap grows
    pub count_same : (h : ℕ) → h ≡ g + 1 → d c ≡ false → Counted d W n h (c + 1)
    unfolding Counted to_pay
    count_same h f e = simp (f, add-one) (rw e at now)

    -- a differing one: min(gap, 2), and its byte
    pub count_more : (k h : ℕ) → h ≡ 0 → d c ≡ true → k ≡ n + 1 + min g 2 → Counted d W k h (c + 1)
    unfolding Counted to_pay
    count_more k h z e f = simp (z, add-one) (omega (arith, rw e at now))

-- ---- page by page

module _ (W : ℕ) (r w : List ℕ) where
  pub update_length_from : update_length W r w ≡ length_from W r w 0 9
  unfolding update_length
  update_length_from = refl

  pub length_from_next : (p : ℕ) → p < 9 → length_from W r w p (9 - p) ≡ page_length (differs W r w p) W + length_from W r w (p + 1) (9 - (p + 1))
  unfolding length_from
  length_from_next p h = let e : 9 - p ≡ suc (9 - (p + 1)) = omega arith in rw e (rw add-one)

  pub length_from_end : (p : ℕ) → 9 ≤ p → length_from W r w p (9 - p) ≡ 0
  unfolding length_from
  length_from_end p h = let e : 9 - p ≡ 0 = omega arith in rw e
