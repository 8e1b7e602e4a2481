-- What the lit frame says of its dots, so that a reader opens no definition: over any chip's sheet, of which only sense is asked.
-- Assumes nothing.
use Prim.Native.Nat.{ℕ, ◌+◌, ◌-◌, ◌*◌, ◌/◌, ◌%◌, ◌^◌, ◌≤◌, ◌<◌}
use mathlib.Core.Path.{◌≡◌, ◌∙◌, refl, ap}
use mathlib.Core.Logic.{◌≢◌}
use mathlib.Core.Bool.{Bool, true, false, cond, not, ◌||◌}
use mathlib.Core.List.{List}
use native.Mathlib.Nat.{mul-add-div, mul-add-mod_self_left, mod-eq_of_lt, div-eq_of_lt, add-zero}
use native.Mathlib.Decide.{dec_lt}
use native.Mathlib.Omega.{arith}
use lib.ListN.{length, get_or, replicate}
use lib.Dec.{lit≤, ltb, eqb}
use borrow.Author.Tests.{lt-ltb, le-ltb, ne_eqb}
use Rattle.paper.specs.Sheet.{Sensible, sheet0713, sheet0717}
use Rattle.paper.specs.declared.sheet.Sheet.{Sheet}
use Rattle.paper.proofs.Cases.{chosen}
use Rattle.paper.proofs.Listed.{at, length_listed, listed_same}
use Rattle.registers.specs.Registers.{with_start_line, with_adc, with_shl, with_reverse}
use Rattle.registers.specs.declared.Registers.{Registers}
use Rattle.controller.proofs.Cells.{place}
use Rattle.glass.specs.Bit.{bit_of, sum_of}
use Rattle.glass.specs.Dot.{line_of, column_of, dot_of, dot_at, lit_of}
use Rattle.glass.specs.Frame.{strip_byte, frame_of}
use Rattle.glass.specs.Voltage.{ratios0717, numerator0717, denominator0717}
use Rattle.glass.proofs.Bits.{bit_is, sum_same, lowest}

or_cond : (a b : Bool) → cond a true (cond b true false) ≡ (a || b)
or_cond true b = refl
or_cond false true = refl
or_cond false false = refl

module _ (c : Sheet) (r : Registers) (m : List ℕ) where
  -- ---- the bytes of the frame

  pub frame_length : length (frame_of c r m) ≡ 9 * c.width
  unfolding frame_of
  frame_length = length_listed _ 0 (9 * c.width)

  -- byte width · t + s of the frame is strip t under segment s
  pub strip_at : (t s : ℕ) → t < 9 → s < c.width → get_or (frame_of c r m) (c.width * t + s) 0 ≡ strip_byte c r m t s
  unfolding frame_of
  strip_at t s ht hs =
      let p : (0 < c.width) = omega arith in
      at (λ (i : ℕ). strip_byte c r m (i / c.width) (i % c.width)) (9 * c.width) (c.width * t + s) (place c.width t s ht hs)
      ∙ ap (λ (k : ℕ). strip_byte c r m k ((c.width * t + s) % c.width)) (mul-add-div p t s ∙ rw (div-eq_of_lt hs, add-zero))
      ∙ ap (λ (k : ℕ). strip_byte c r m t k) (mul-add-mod_self_left c.width t s ∙ mod-eq_of_lt hs)

  -- and its bit b is the dot of row 8t + b under segment s
  pub dot_at_lem : (t s b : ℕ) → t < 9 → s < c.width → b < 8 → bit_of (get_or (frame_of c r m) (c.width * t + s) 0) b ≡ lit_of c r m (8 * t + b) s
  unfolding strip_byte
  dot_at_lem t s b ht hs hb = rw (strip_at t s ht hs) (bit_is (λ (k : ℕ). lit_of c r m (8 * t + k) s) 8 b hb)

  -- there are no rows but the commons and the icon row
  pub no_row : (k s : ℕ) → c.rows ≤ k → k ≢ 64 → lit_of c r m k s ≡ false
  unfolding lit_of
  no_row k s le ne = rw (le-ltb k c.rows le, ne_eqb k 64 ne)

  -- a strip of which no row is there is 0
  pub dark_strip : (t s : ℕ) → c.rows ≤ 8 * t → t < 8 → s < c.width → get_or (frame_of c r m) (c.width * t + s) 0 ≡ 0
  unfolding strip_byte sum_of
  dark_strip t s le lt hs =
      strip_at t s (omega arith) hs
      ∙ sum_same (λ (b : ℕ). lit_of c r m (8 * t + b) s) (λ (b : ℕ). false) 8 (λ b h. no_row (8 * t + b) s (omega arith) (λ e. omega arith))

  -- and one of which n rows are there is below 2 to the n
  pub low_strip : (t s n : ℕ) → n ≤ 8 → c.rows ≤ 8 * t + n → t < 8 → s < c.width → get_or (frame_of c r m) (c.width * t + s) 0 < 2 ^ n
  unfolding strip_byte
  low_strip t s n hn le lt hs =
      let f : ℕ → Bool = λ b. lit_of c r m (8 * t + b) s in
      rw (strip_at t s (omega arith) hs) (lowest f n 8 hn (λ b a h. no_row (8 * t + b) s (omega arith) (λ e. omega arith)))

  -- strip 8's bits 1 to 7 are 0
  pub strip_8 : Sensible c → (s b : ℕ) → s < c.width → 1 ≤ b → b < 8 → bit_of (get_or (frame_of c r m) (c.width * 8 + s) 0) b ≡ false
  strip_8 h s b hs hb lt = dot_at_lem 8 s b (omega arith) hs lt ∙ no_row (8 * 8 + b) s (omega (arith, h.lines)) (λ e. omega arith)

  -- ---- off, entire, reverse

  -- a display that is off shows no dot, whatever else is set
  pub off_dark : r.on ≡ false → (k s : ℕ) → lit_of c r m k s ≡ false
  unfolding lit_of dot_at dot_of
  off_dark h k s = chosen (λ (d : Bool). d ≡ false) (ltb k c.rows) (rw h) (chosen (λ (d : Bool). d ≡ false) (eqb k 64) (rw h) refl)

  pub off_frame : r.on ≡ false → frame_of c r m ≡ replicate (9 * c.width) 0
  unfolding frame_of strip_byte sum_of
  off_frame h =
      listed_same (λ (i : ℕ). strip_byte c r m (i / c.width) (i % c.width)) 0 0 (9 * c.width)
      (λ i. sum_same (λ (b : ℕ). lit_of c r m (8 * (i / c.width) + b) (i % c.width)) (λ (b : ℕ). false) 8 (λ b lt. off_dark h (8 * (i / c.width) + b) (i % c.width)))

  -- entire display lights every row of every segment while the display is on, the icon row too
  pub entire_lit : r.on ≡ true → r.entire ≡ true → (k s : ℕ) → k < c.rows → lit_of c r m k s ≡ true
  unfolding lit_of dot_at dot_of
  entire_lit h e k s lt = rw (lt-ltb k c.rows lt, h, e)

  pub entire_icon : r.on ≡ true → r.entire ≡ true → (s : ℕ) → lit_of c r m 64 s ≡ true
  unfolding lit_of dot_at dot_of
  entire_icon h e s = chosen (λ (d : Bool). d ≡ true) (ltb 64 c.rows) (rw (h, e)) (rw (h, e))

  -- and nothing else
  pub entire_only : r.on ≡ true → r.entire ≡ true → (k s : ℕ) → lit_of c r m k s ≡ (ltb k c.rows || eqb k 64)
  unfolding lit_of dot_at dot_of
  entire_only h e k s = rw (h, e) (or_cond (ltb k c.rows) (eqb k 64))

  -- reverse turns each dot of a display that is on and not entire, the icon row too
  pub reverse_turns : r.on ≡ true → r.entire ≡ false → (k s : ℕ) → k < c.rows
      → lit_of c (with_reverse r true) m k s ≡ not (lit_of c (with_reverse r false) m k s)
  unfolding lit_of dot_at dot_of
  reverse_turns h e k s lt = rw (lt-ltb k c.rows lt, h, e)

  pub reverse_icon : Sensible c → r.on ≡ true → r.entire ≡ false → (s : ℕ)
      → lit_of c (with_reverse r true) m 64 s ≡ not (lit_of c (with_reverse r false) m 64 s)
  unfolding lit_of dot_at dot_of
  reverse_icon g h e s = rw (le-ltb 64 c.rows g.lines, h, e)

  -- ---- start line and SHL

  -- row k shows line (start + k) mod 64
  pub row_shows : r.shl ≡ false → (k s : ℕ) → k < c.rows → lit_of c r m k s ≡ dot_at c.width r m ((r.start_line + k) % 64) s
  unfolding lit_of line_of
  row_shows h k s lt = rw (lt-ltb k c.rows lt, h)

  -- with SHL, (start + rows - 1 - k) mod 64
  pub row_shows_back : r.shl ≡ true → (k s : ℕ) → k < c.rows → lit_of c r m k s ≡ dot_at c.width r m ((r.start_line + (c.rows - 1 - k)) % 64) s
  unfolding lit_of line_of
  row_shows_back h k s lt = rw (lt-ltb k c.rows lt, h)

  -- the icon row shows line 64, and so does not scroll
  pub icon_shows : Sensible c → (s : ℕ) → lit_of c r m 64 s ≡ dot_at c.width r m 64 s
  unfolding lit_of
  icon_shows g s = rw (le-ltb 64 c.rows g.lines)

  pub icons_stay : Sensible c → (v s : ℕ) (f : Bool) → lit_of c (with_shl (with_start_line r v) f) m 64 s ≡ lit_of c r m 64 s
  unfolding lit_of dot_at
  icons_stay g v s f = rw (le-ltb 64 c.rows g.lines)

  -- ---- ADC

  -- segment s with ADC 1 shows what segment width - 1 - s shows with ADC 0
  pub adc_mirrors : (k s : ℕ) → lit_of c (with_adc r true) m k s ≡ lit_of c (with_adc r false) m k (c.width - 1 - s)
  unfolding lit_of dot_at column_of
  adc_mirrors k s = refl

-- ---- the KS0713

-- entire display lights all 65 rows
pub entire_65 : (r : Registers) (m : List ℕ) → r.on ≡ true → r.entire ≡ true → (k s : ℕ) → k ≤ 64 → lit_of sheet0713 r m k s ≡ true
entire_65 r m h e k s le = row (dec_lt k 64)
  where
    row : Dec (k < 64) → lit_of sheet0713 r m k s ≡ true
    row (yes lt) = entire_lit sheet0713 r m h e k s lt
    row (no ge) = let q : k ≡ 64 = omega arith in rw q (entire_icon sheet0713 r m h e s)

-- ---- the KS0717

module _ (r : Registers) (m : List ℕ) where
  -- rows 54 to 63 are dark, whatever the registers say: of the frame, strip 7 is 0, and of strip 6 bits 6 and 7
  pub rows_dark : (k s : ℕ) → 54 ≤ k → k < 64 → lit_of sheet0717 r m k s ≡ false
  rows_dark k s le lt = no_row sheet0717 r m k s le (λ e. omega arith)

  pub strip_7 : (s : ℕ) → s < 100 → get_or (frame_of sheet0717 r m) (100 * 7 + s) 0 ≡ 0
  strip_7 s hs = dark_strip sheet0717 r m 7 s (lit≤ tt) (lit≤ tt) hs

  pub strip_6 : (s : ℕ) → s < 100 → get_or (frame_of sheet0717 r m) (100 * 6 + s) 0 < 64
  strip_6 s hs = low_strip sheet0717 r m 6 s 6 (lit≤ tt) (lit≤ tt) (lit≤ tt) hs

  -- entire display lights rows 0 to 53 and the icon row, and nothing else
  pub entire_55 : r.on ≡ true → r.entire ≡ true → (k s : ℕ) → lit_of sheet0717 r m k s ≡ (ltb k 54 || eqb k 64)
  entire_55 h e k s = entire_only sheet0717 r m h e k s

  -- with SHL row k shows line (start + 53 - k) mod 64
  pub back_53 : r.shl ≡ true → (k s : ℕ) → k < 54 → lit_of sheet0717 r m k s ≡ dot_at 100 r m ((r.start_line + (53 - k)) % 64) s
  back_53 h k s lt = row_shows_back sheet0717 r m h k s lt

  -- with ADC 1 segment s shows column 99 - s
  pub adc_99 : (k s : ℕ) → lit_of sheet0717 (with_adc r true) m k s ≡ lit_of sheet0717 (with_adc r false) m k (99 - s)
  adc_99 k s = adc_mirrors sheet0717 r m k s

-- V0 is what 001 has: (1 + Rb/Ra) · (1 - (63 - contrast) / 162) · 2,100 mV (its equations 1 and 2), with the ratio in tenths
pub v0_from_001 : (resistor contrast : ℕ) → contrast ≤ 63
    → numerator0717 resistor contrast * (10 * 162) ≡ get_or ratios0717 resistor 0 * (162 - (63 - contrast)) * 2100 * denominator0717
unfolding numerator0717
v0_from_001 resistor contrast h =
    let a : 162 - (63 - contrast) ≡ 99 + contrast = omega arith in
    rw a (both_ways (get_or ratios0717 resistor 0 * (99 + contrast)))
  where
    both_ways : (x : ℕ) → x * 35 * (10 * 162) ≡ x * 2100 * 27
    both_ways x = omega arith
