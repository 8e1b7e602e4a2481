-- V0 by the table of eight ratios and the three numbers that it hangs on, and that both chips' V0 is one by theirs.
-- Assumes nothing.
use Rattle.std.specs.Prelude.{ℕ, ◌+◌, ◌*◌, ◌≤◌, ◌≡◌, refl, List, get_or}
use mathlib.Core.Path.{ap, sym}
use native.Mathlib.Nat.{mul-one}
use lib.Dec.{T, lit≤, leb}
use Rattle.paper.proofs.Every.{every}
use Rattle.glass.specs.Voltage.{Fraction, fraction, ratios, numerator, v0_of, ratios0717, numerator0717, v0_of0717}

-- V0 in millivolts is ratio · (base + contrast) · factor / over
abbrev pub v0_by : List ℕ → ℕ → ℕ → ℕ → ℕ → ℕ → Fraction
v0_by table base factor over resistor contrast = fraction (get_or table resistor 0 * (base + contrast) * factor) over

-- small enough that no numerator has more than 32 bits
pub record Small (table : List ℕ) (base factor : ℕ) : Type 0 where
  pub ratios : T (every (λ k. leb (get_or table k 0) 1000) 0 8)
  pub bases : base ≤ 900
  pub factors : factor ≤ 1000

-- both are
pub small0713 : Small ratios 237 1
small0713 = record { ratios = tt; bases = lit≤ tt; factors = lit≤ tt }

pub small0717 : Small ratios0717 99 35
small0717 = record { ratios = tt; bases = lit≤ tt; factors = lit≤ tt }

-- and their V0 is the fraction of their table and numbers
pub supplied0713 : (resistor contrast : ℕ) → v0_of resistor contrast ≡ v0_by ratios 237 1 15 resistor contrast
unfolding numerator
supplied0713 k c = ap (λ n. fraction n 15) (sym (mul-one _))

pub supplied0717 : (resistor contrast : ℕ) → v0_of0717 resistor contrast ≡ v0_by ratios0717 99 35 27 resistor contrast
unfolding numerator0717
supplied0717 k c = refl
