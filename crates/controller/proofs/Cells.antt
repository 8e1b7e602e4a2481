-- Laws of the display memory, over the width w, so that no layer above opens its definitions.
-- Assumes nothing.
use Prim.Native.Nat.{ℕ, ◌+◌, ◌*◌, ◌%◌, ◌≤◌, ◌<◌}
use mathlib.Core.Path.{◌≡◌, refl, ap, sym, subst}
use mathlib.Core.Logic.{◌≢◌}
use mathlib.Core.Bool.{Bool, true, false, cond, ◌&&◌}
use mathlib.Core.List.{List}
use native.Mathlib.Omega.{arith}
use native.Mathlib.Nat.{mul-le-mul_left}
use lib.ListN.{length, get_or, set, length-set}
use lib.Seq.{get_or-set_same, get_or-set_other}
use lib.Dec.{T, ltb, eqb}
use borrow.Author.Tests.{lt-ltb, le-ltb, ne_eqb, ltb-true}
use Rattle.paper.proofs.Cases.{less}
use Rattle.controller.specs.Memory.{cell_of, is_cell, stored, advanced}

-- ---- what a byte shows

cells : (t : Bool) (v : ℕ) → cond t (cond t (v % 2) v % 2) (cond t (v % 2) v) ≡ cond t (v % 2) v
cells true v = omega arith
cells false v = refl

-- what a byte shows, shows itself
pub cell_again : (p v : ℕ) → cell_of p (cell_of p v) ≡ cell_of p v
unfolding cell_of
cell_again p v = cells (eqb p 8) v

-- page 8 shows bit 0, any other page the whole byte
pub cell_icons : (v : ℕ) → cell_of 8 v ≡ v % 2
unfolding cell_of
cell_icons v = refl

pub cell_whole : (p v : ℕ) → p ≢ 8 → cell_of p v ≡ v
unfolding cell_of
cell_whole p v h = simp (ne_eqb p 8 h)

-- ---- where a cell stands

-- inside the memory
pub place : (w p c : ℕ) → p < 9 → c < w → w * p + c < 9 * w
place w p c hp hc = let h : p ≤ 8 = omega arith in omega (arith, mul-le-mul_left w h)

-- in one place only: two cells are one only if page and column are
pub place_one : (w p q c k : ℕ) → c < w → k < w → w * p + c ≡ w * q + k → (p ≡ q) × (c ≡ k)
place_one w p q c k hc hk e = less p q
    (λ h. absurd (omega (arith, mul-le-mul_left w h)))
    (λ h. less q p
    (λ l. absurd (omega (arith, mul-le-mul_left w l)))
    (λ l. let s : p ≡ q = omega arith in (s, omega (arith, ap (λ (x : ℕ). w * x) s))))

-- there is a cell below page 9 and column w, and nowhere else
pub is_cell_lem : (w p c : ℕ) → p < 9 → c < w → is_cell w p c ≡ true
unfolding is_cell
is_cell_lem w p c hp hc = simp (lt-ltb p 9 hp, lt-ltb c w hc)

pub both_true : (a b : Bool) → a && b ≡ true → (a ≡ true) × (b ≡ true)
both_true true true e = (refl, refl)
both_true true false e = absurd (subst T (sym e) tt)
both_true false b e = absurd (subst T (sym e) tt)

-- and it lies inside the memory
pub cell_inside : (w p c : ℕ) → is_cell w p c ≡ true → w * p + c < 9 * w
unfolding is_cell
cell_inside w p c e = let f = both_true (ltb p 9) (ltb c w) e in place w p c (ltb-true p 9 f.0) (ltb-true c w f.1)

pub both_false : (a : Bool) → a && false ≡ false
both_false true = refl
both_false false = refl

pub past_pages : (w p c : ℕ) → 9 ≤ p → is_cell w p c ≡ false
unfolding is_cell
past_pages w p c h = simp (le-ltb p 9 h)

pub past_columns : (w p c : ℕ) → w ≤ c → is_cell w p c ≡ false
unfolding is_cell
past_columns w p c h = simp (le-ltb c w h) (both_false (ltb p 9))

-- ---- one data write

stored_length_by : (t : Bool) (m : List ℕ) (i v : ℕ) → length (cond t (set m i v) m) ≡ length m
stored_length_by true m i v = length-set m i v
stored_length_by false m i v = refl

pub stored_length : (w : ℕ) (m : List ℕ) (p c v : ℕ) → length (stored w m p c v) ≡ length m
unfolding stored
stored_length w m p c v = stored_length_by (is_cell w p c) m (w * p + c) _

stored_other_by : (t : Bool) (m : List ℕ) (i j v : ℕ) → j ≢ i → get_or (cond t (set m i v) m) j 0 ≡ get_or m j 0
stored_other_by true m i j v h = get_or-set_other m i j v 0 h
stored_other_by false m i j v h = refl

-- every other byte stays
pub stored_other : (w : ℕ) (m : List ℕ) (p c v j : ℕ) → j ≢ w * p + c → get_or (stored w m p c v) j 0 ≡ get_or m j 0
unfolding stored
stored_other w m p c v j h = stored_other_by (is_cell w p c) m (w * p + c) j _ h

-- the cell holds the byte
pub stored_same : (w : ℕ) (m : List ℕ) (p c v : ℕ) → length m ≡ 9 * w → p < 9 → c < w → get_or (stored w m p c v) (w * p + c) 0 ≡ cell_of p v
unfolding stored
stored_same w m p c v e hp hc = simp (is_cell_lem w p c hp hc) (get_or-set_same m (w * p + c) (cell_of p v) 0 (omega (arith, place w p c hp hc)))

-- where there is no cell nothing is stored
pub stored_none : (w : ℕ) (m : List ℕ) (p c v : ℕ) → is_cell w p c ≡ false → stored w m p c v ≡ m
unfolding stored
stored_none w m p c v e = simp e

-- ---- the column

pub advanced_below : (w c : ℕ) → c < w → advanced w c ≡ c + 1
unfolding advanced
advanced_below w c h = simp (lt-ltb c w h)

pub advanced_locked : (w c : ℕ) → w ≤ c → advanced w c ≡ c
unfolding advanced
advanced_locked w c h = simp (le-ltb c w h)
