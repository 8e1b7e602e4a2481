-- The tables of ratios, each computed over once: no ratio is above its table's last. And where nothing is refused resistor and
-- contrast are inside their ranges, so that V0's numerators fit.
-- Assumes nothing.
use Prim.Native.Nat.{ℕ, ◌+◌, ◌*◌, ◌≤◌, ◌<◌}
use mathlib.Core.Path.{◌≡◌}
use mathlib.Core.Bool.{Bool, false, ◌||◌}
use mathlib.Core.List.{List}
use native.Mathlib.Nat.{mul-le-mul}
use native.Mathlib.Omega.{arith}
use lib.ListN.{get_or}
use lib.Dec.{T, ltb, leb, leb→le}
use borrow.Author.Tests.{ltb-false}
use Rattle.paper.proofs.Every.{every, at}
use Rattle.paper.proofs.Either.{neither}
use Rattle.glass.specs.Voltage.{ratios, ratios0717}
use Rattle.glass.specs.Supply.{Small}

few : List ℕ → ℕ → ℕ → Bool
few table most k = leb (get_or table k 0) most

-- a table of eight of which none is above `most`
entry_most : (table : List ℕ) (most : ℕ) → T (every (few table most) 0 8) → (k : ℕ) → k ≤ 7 → get_or table k 0 ≤ most
unfolding few
entry_most table most t k h = leb→le _ _ (at (few table most) 8 t k (omega arith))

pub ratio_most : (k : ℕ) → k ≤ 7 → get_or ratios k 0 ≤ 648
unfolding few
ratio_most = entry_most ratios 648 tt

pub ratio_0717_most : (k : ℕ) → k ≤ 7 → get_or ratios0717 k 0 ≤ 64
unfolding few
ratio_0717_most = entry_most ratios0717 64 tt

-- a resistor and a contrast that are not refused are inside their ranges
pub inside : (k c : ℕ) → ltb 7 k || ltb 63 c ≡ false → (k ≤ 7) × (c ≤ 63)
inside k c e =
    let p = neither (ltb 7 k) (ltb 63 c) e in
    (ltb-false 7 k p.0, ltb-false 63 c p.1)

module _ {table : List ℕ} {base factor : ℕ} (s : Small table base factor) {k c : ℕ} (h : (k ≤ 7) × (c ≤ 63)) where
  table_most : get_or table k 0 ≤ 1000
  table_most = leb→le _ _ (at (λ n. leb (get_or table n 0) 1000) 8 s.ratios k (omega (arith, h.0)))

  base_most : base + c ≤ 963
  base_most = omega (arith, s.bases, h.1)

  -- a ratio times the contrast, and that times the factor
  pub fits : get_or table k 0 * (base + c) < 4294967296
  fits = omega (arith, mul-le-mul table_most base_most)

  pub fits_twice : get_or table k 0 * (base + c) * factor < 4294967296
  fits_twice = omega (arith, mul-le-mul (mul-le-mul table_most base_most) s.factors)
