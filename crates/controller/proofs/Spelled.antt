-- What the data sheet's sentences say of the model, each by name: the bits of the status byte, what the pin and AD leave, what a
-- data write leaves on each page, and which kinds and values make no cycle.
-- Assumes nothing.
use Prim.Native.Nat.{ℕ, ◌+◌, ◌*◌, ◌/◌, ◌%◌, ◌≤◌, ◌<◌}
use mathlib.Core.Path.{◌≡◌, ◌∙◌, refl, ap, subst}
use mathlib.Core.Logic.{◌≢◌, ◌⊎◌, inl, inr}
use mathlib.Core.Bool.{Bool, true, false, cond, ◌&&◌}
use native.Mathlib.Omega.{arith}
use lib.ListN.{length, get_or}
use lib.Dec.{ltb}
use borrow.Author.Tests.{lt-ltb, ltb-true}
use Rattle.paper.specs.Told.{given}
use Rattle.paper.specs.Sheet.{Sensible}
use Rattle.paper.specs.declared.sheet.Sheet.{Sheet}
use Rattle.paper.proofs.Either.{either, or_true}
use Rattle.paper.proofs.Exactly.{Exactly}
use Rattle.instructions.specs.Read.{read_of}
use Rattle.instructions.specs.declared.instruction.Awaited.TheVariants as awaited
use Rattle.instructions.specs.declared.instruction.Instruction.TheVariants.{IndicatorOn, IndicatorValue}
use Rattle.registers.specs.Registers.{outside, with_indicator, with_indicator_value, with_awaited, with_pin_low}
use Rattle.registers.specs.declared.Registers.{Registers}
use Rattle.controller.specs.Memory.{cell_of}
use Rattle.controller.specs.Cycle.{status_read, status, after_low, after_instruction, malformed, carried, kept, answer}
use Rattle.controller.specs.State.{State, state, step, number, Restartable, Ready}
use Rattle.controller.proofs.Cells.{both_true, cell_icons, cell_whole, stored_same, stored_other}
use Rattle.controller.proofs.Acting.{unheld, does, acts, writes}
use Rattle.controller.proofs.Chips.{obeys}

-- ---- the status byte

-- bit 7 busy, always 0; bit 6 is 1 for ADC 0; bit 5 is 1 for display off; bit 4 is 1 while the pin is low; the rest 0
pub record StatusBits (adc on low : Bool) (b : ℕ) : Type 0 where
  pub bit_7 : b / 128 ≡ 0
  pub bit_6 : b / 64 % 2 ≡ cond adc 0 1
  pub bit_5 : b / 32 % 2 ≡ cond on 0 1
  pub bit_4 : b / 16 % 2 ≡ cond low 1 0
  pub bits_0_to_3 : b % 16 ≡ 0

-- in each of the eight cases, by computing it
bits_of : (adc on low : Bool) → StatusBits adc on low (cond adc 0 64 + cond on 0 32 + cond low 16 0)
bits_of true true true = record { bit_7 = refl; bit_6 = refl; bit_5 = refl; bit_4 = refl; bits_0_to_3 = refl }
bits_of true true false = record { bit_7 = refl; bit_6 = refl; bit_5 = refl; bit_4 = refl; bits_0_to_3 = refl }
bits_of true false true = record { bit_7 = refl; bit_6 = refl; bit_5 = refl; bit_4 = refl; bits_0_to_3 = refl }
bits_of true false false = record { bit_7 = refl; bit_6 = refl; bit_5 = refl; bit_4 = refl; bits_0_to_3 = refl }
bits_of false true true = record { bit_7 = refl; bit_6 = refl; bit_5 = refl; bit_4 = refl; bits_0_to_3 = refl }
bits_of false true false = record { bit_7 = refl; bit_6 = refl; bit_5 = refl; bit_4 = refl; bits_0_to_3 = refl }
bits_of false false true = record { bit_7 = refl; bit_6 = refl; bit_5 = refl; bit_4 = refl; bits_0_to_3 = refl }
bits_of false false false = record { bit_7 = refl; bit_6 = refl; bit_5 = refl; bit_4 = refl; bits_0_to_3 = refl }

pub status_bits : (r : Registers) → StatusBits r.adc r.on r.pin_low (status r)
unfolding status
status_bits r = bits_of r.adc r.on r.pin_low

-- ---- status reads and the pin, from any registers in range and a memory of nine pages, the pin low or high

module _ (k : Sheet) (s : State) (long : length s.memory ≡ 9 * k.width) (ranged : outside k s.registers ≡ false) where
  -- a status read answers the status byte
  pub status_answered : answer k s.registers s.memory 2 0 ≡ status_read (status s.registers)
  unfolding carried
  status_answered = (unheld k s 2 long ranged refl refl).0

  -- pin low: every register takes its start value, the three numbers of the new set too; memory, holder and command set are kept
  pub pin_low_starts : (number k s (4, 0) ≡ 0) × (step k s (4, 0) ≡ state (after_low k s.registers) s.memory)
  unfolding carried kept
  pin_low_starts = let e = unheld k s 4 long ranged refl refl in does k s (4, 0) _ _ e.0 e.1

  -- pin high only raises the pin
  pub pin_high_raises : (number k s (5, 0) ≡ 0) × (step k s (5, 0) ≡ state (with_pin_low s.registers false) s.memory)
  unfolding carried kept
  pin_high_raises = let e = unheld k s 5 long ranged refl refl in does k s (5, 0) _ _ e.0 e.1

-- ---- AD: indicator on at once, and the next instruction byte mod 4 is its value. All else stays

module _ (k : Sheet) (g : Sensible k) (s : State) (h : Ready k s) where
  -- the first byte: the indicator is on, and its byte is awaited
  pub indicator_at_once : (number k s (0, 0xad) ≡ 0) × (step k s (0, 0xad) ≡ state (with_awaited (with_indicator s.registers true) awaited.Indicator) s.memory)
  indicator_at_once = let e = obeys k g s h IndicatorOn 0xad refl refl in (e.0, e.1)

  -- the second byte, whatever its value: then nothing is awaited
  pub indicator_value_next : (v : ℕ) → let t = step k s (0, 0xad) in
      (number k t (0, v) ≡ 0) × (step k t (0, v) ≡ state (with_awaited (with_indicator_value (with_indicator s.registers true) (v % 4)) awaited.Nothing) s.memory)
  indicator_value_next v =
      let d = obeys k g s h IndicatorOn 0xad refl refl in
      let t = step k s (0, 0xad) in
      let q : read_of k t.registers.awaited v ≡ given (IndicatorValue (v % 4)) = rw (ap (λ x. x.registers.awaited) d.1) refl in
      let e = acts k g t (IndicatorValue (v % 4)) v d.2 q in
      (e.0, e.1 ∙ ap (λ x. state (after_instruction k x.registers (IndicatorValue (v % 4))) x.memory) d.1)

-- ---- a data write below the width

module _ (k : Sheet) (g : Sensible k) (s : State) (h : Restartable k s) (b : ℕ) where
  -- the cell at page and column
  written_at : s.registers.page < 9 → s.registers.column.0 < k.width
      → get_or (step k s (1, b)).memory (k.width * s.registers.page + s.registers.column.0) 0 ≡ cell_of s.registers.page b
  written_at p l =
      let r = s.registers in
      ap (λ t. get_or t.memory (k.width * r.page + r.column.0) 0) (writes k g s b h).1
      ∙ stored_same k.width s.memory r.page r.column.0 b h.long p l

  -- on page 8 only bit 0 is stored
  pub page_8_stores : s.registers.page ≡ 8 → s.registers.column.0 < k.width
      → get_or (step k s (1, b)).memory (k.width * 8 + s.registers.column.0) 0 ≡ b % 2
  page_8_stores e l =
      subst (λ (p : ℕ). get_or (step k s (1, b)).memory (k.width * p + s.registers.column.0) 0 ≡ cell_of p b) e (written_at (omega arith) l) ∙ cell_icons b

  -- on pages 0 to 7 the whole byte
  pub page_stores : s.registers.page < 8 → s.registers.column.0 < k.width
      → get_or (step k s (1, b)).memory (k.width * s.registers.page + s.registers.column.0) 0 ≡ b
  page_stores p l = written_at (omega arith) l ∙ cell_whole s.registers.page b (λ e. omega arith)

  -- and every other byte stays
  pub others_stay : (j : ℕ) → j ≢ k.width * s.registers.page + s.registers.column.0 → get_or (step k s (1, b)).memory j 0 ≡ get_or s.memory j 0
  others_stay j d =
      let r = s.registers in
      ap (λ t. get_or t.memory j 0) (writes k g s b h).1 ∙ stored_other k.width s.memory r.page r.column.0 b j d

-- ---- number 9: kind above 5, or value not 0 in kinds 2 to 5

pub malformed_exactly : (kind value : ℕ) → Exactly (malformed kind value ≡ true) ((5 < kind) ⊎ ((2 ≤ kind) × (value ≢ 0)))
malformed_exactly kind value = (λ e. told (either (ltb 5 kind) (ltb 1 kind && ltb 0 value) e), λ h. or_true (ltb 5 kind) (ltb 1 kind && ltb 0 value) (tests h))
  where
    told : (ltb 5 kind ≡ true) ⊎ (ltb 1 kind && ltb 0 value ≡ true) → (5 < kind) ⊎ ((2 ≤ kind) × (value ≢ 0))
    told (inl e) = inl (ltb-true 5 kind e)
    told (inr e) = let f = both_true (ltb 1 kind) (ltb 0 value) e in let l = ltb-true 0 value f.1 in inr (ltb-true 1 kind f.0, λ z. omega arith)

    tests : (5 < kind) ⊎ ((2 ≤ kind) × (value ≢ 0)) → (ltb 5 kind ≡ true) ⊎ (ltb 1 kind && ltb 0 value ≡ true)
    tests (inl h) = inl (lt-ltb 5 kind h)
    tests (inr h) = inr (rw (lt-ltb 1 kind h.0, lt-ltb 0 value (omega (arith, h.1))))
