-- V0: millivolts as an exact fraction, a numerator over 15 for the KS0713 and over 27 for the KS0717.
-- Assumes nothing.
use Rattle.std.specs.Prelude.{ℕ, ◌+◌, ◌*◌, ◌≡◌, cond, ◌||◌, List, [], ◌∷◌, get_or, ltb, Result}
use Rattle.paper.specs.Refusal.{out_of_range}
use Rattle.paper.specs.Told.{given, refused, told}
use Rattle.paper.specs.declared.refusal.Refusal.{Refusal}
pub use Rattle.glass.specs.declared.voltage.Fraction.{Fraction}

abbrev pub fraction : ℕ → ℕ → Fraction
fraction n d = record { numerator = n; denominator = d }

-- what v0 promises of a chip whose V0 is v: the fraction; 2 where resistor or contrast is outside its range
pub record IsV0 (v : ℕ → ℕ → Fraction) (resistor contrast : ℕ) (a : Result Fraction Refusal) : Type 0 where
  pub tells : told a ≡ cond (ltb 7 resistor || ltb 63 contrast) (refused out_of_range) (given (v resistor contrast))

-- ---- the KS0713

-- 1 + Rb/Ra in hundredths by resistor, from 002
abbrev pub ratios : List ℕ
ratios = 190 ∷ 219 ∷ 255 ∷ 302 ∷ 361 ∷ 435 ∷ 529 ∷ 648 ∷ []

-- V0 in millivolts is ratio · (237 + contrast) / 15
unfoldable pub numerator : ℕ → ℕ → ℕ
numerator resistor contrast = get_or ratios resistor 0 * (237 + contrast)

abbrev pub denominator : ℕ
denominator = 15

abbrev pub v0_of : ℕ → ℕ → Fraction
v0_of resistor contrast = fraction (numerator resistor contrast) denominator

-- what v0 promises: the fraction; 2 where resistor or contrast is outside its range
abbrev pub IsVoltage : ℕ → ℕ → Result Fraction Refusal → Type 0
IsVoltage = IsV0 v0_of

-- ---- the KS0717

-- 1 + Rb/Ra in tenths by resistor, from 001
abbrev pub ratios0717 : List ℕ
ratios0717 = 30 ∷ 35 ∷ 40 ∷ 45 ∷ 50 ∷ 54 ∷ 59 ∷ 64 ∷ []

-- V0 in millivolts is ratio · (99 + contrast) · 35 / 27
unfoldable pub numerator0717 : ℕ → ℕ → ℕ
numerator0717 resistor contrast = get_or ratios0717 resistor 0 * (99 + contrast) * 35

abbrev pub denominator0717 : ℕ
denominator0717 = 27

abbrev pub v0_of0717 : ℕ → ℕ → Fraction
v0_of0717 resistor contrast = fraction (numerator0717 resistor contrast) denominator0717

-- what v0 of the KS0717 promises: the fraction; 2 where resistor or contrast is outside its range
abbrev pub IsVoltage0717 : ℕ → ℕ → Result Fraction Refusal → Type 0
IsVoltage0717 = IsV0 v0_of0717
