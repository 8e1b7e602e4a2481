-- Packing and unpacking are inverse: every register is found again in the bytes, and bytes that stand for registers are found again
-- in the registers.
-- Assumes nothing.
use Prim.Native.Nat.{ℕ, zero, suc, ◌+◌, ◌≤◌, ◌<◌}
use mathlib.Core.Path.{◌≡◌, refl, sym, subst}
use mathlib.Core.Bool.{Bool, true, false, ◌&&◌, ◌||◌}
use mathlib.Core.List.{List, [], ◌∷◌}
use native.Mathlib.Omega.{arith}
use lib.ListN.{length, get_or}
use lib.Dec.{ltb, eqb}
use borrow.Author.Tests.{ltb-false}
use Rattle.paper.specs.Listed.{listed}
use Rattle.paper.proofs.Listed.{whole}
use Rattle.paper.proofs.Cases.{less}
use Rattle.paper.proofs.Either.{or_left, or_right}
use Rattle.instructions.specs.declared.instruction.Awaited.{Awaited}
use Rattle.instructions.specs.declared.instruction.Awaited.TheVariants as awaited
use Rattle.registers.specs.Registers.{regs, column}
use Rattle.registers.specs.declared.Beside.{Beside}
use Rattle.registers.specs.declared.ModifyRead.{ModifyRead}
use Rattle.registers.specs.declared.ModifyRead.TheVariants.{Off, On}
use Rattle.registers.specs.declared.Registers.{Registers}
use Rattle.instructions.specs.declared.added.CommandSet.{CommandSet}
use Rattle.instructions.specs.declared.added.CommandSet.TheVariants.{Old, New}
use Rattle.state.specs.Packed.{flag_byte, modify_byte, saved_byte, modify_of, awaited_byte, awaited_of, set_byte, set_of, beside_of, packed, unpacked}
use Rattle.state.specs.Unfit.{above, odd_flag, spare_used, unfit}

-- ---- the registers again

flag_again : (x : Bool) → eqb (flag_byte x) 1 ≡ x
flag_again true = refl
flag_again false = refl

modify_again : (m : ModifyRead) → modify_of (modify_byte m) (saved_byte m) ≡ m
modify_again Off = refl
modify_again (On c) = refl

awaited_again : (a : Awaited) → awaited_of (awaited_byte a) ≡ a
awaited_again awaited.Nothing = refl
awaited_again awaited.Contrast = refl
awaited_again awaited.Indicator = refl
awaited_again awaited.Com0 = refl
awaited_again awaited.Duty = refl
awaited_again awaited.Inversion = refl

set_again : (s : CommandSet) → set_of (set_byte s) ≡ s
set_again Old = refl
set_again New = refl

pub registers_again : (r : Registers) → unpacked (packed r) ≡ r
unfolding unpacked packed
registers_again r =
    rw (
      flag_again r.bias,
      flag_again r.adc,
      flag_again r.shl,
      flag_again r.reverse,
      flag_again r.entire,
      flag_again r.on,
      flag_again r.indicator,
      flag_again r.pin_low,
      modify_again r.modify_read,
      awaited_again r.awaited,
      flag_again r.fresh,
      set_again r.beside.set,
    )

-- ---- the bytes again

pub flag_kept : (x : ℕ) → x ≤ 1 → flag_byte (eqb x 1) ≡ x
flag_kept zero h = refl
flag_kept (suc zero) h = refl
flag_kept (suc (suc x)) h = absurd (omega arith)

awaited_kept : (x : ℕ) → x ≤ 5 → awaited_byte (awaited_of x) ≡ x
awaited_kept zero h = refl
awaited_kept (suc zero) h = refl
awaited_kept (suc (suc zero)) h = refl
awaited_kept (suc (suc (suc zero))) h = refl
awaited_kept (suc (suc (suc (suc zero)))) h = refl
awaited_kept (suc (suc (suc (suc (suc zero))))) h = refl
awaited_kept (suc (suc (suc (suc (suc (suc x)))))) h = absurd (omega arith)

set_kept : (x : ℕ) → x ≤ 1 → set_byte (set_of x) ≡ x
set_kept zero h = refl
set_kept (suc zero) h = refl
set_kept (suc (suc x)) h = absurd (omega arith)

modify_kept : (x s : ℕ) → x ≤ 1 → modify_byte (modify_of x s) ≡ x
modify_kept zero s h = refl
modify_kept (suc zero) s h = refl
modify_kept (suc (suc x)) s h = absurd (omega arith)

saved_kept : (x s : ℕ) → x ≤ 1 → (eqb x 0 && ltb 0 s) ≡ false → saved_byte (modify_of x s) ≡ s
saved_kept zero s h e = let l = ltb-false 0 s e in omega arith
saved_kept (suc zero) s h e = refl
saved_kept (suc (suc x)) s h e = absurd (omega arith)

-- none of the bytes is above what it may be
none_above : (most : ℕ) (b : List ℕ) (i n : ℕ) → above most b i n ≡ false → (k : ℕ) → k < n → get_or b (i + k) 0 ≤ most
none_above most b i zero e k h = absurd (omega arith)
none_above most b i (suc n) e k h = less k n
    (λ l. none_above most b i n (or_left (above most b i n) (ltb most (get_or b (i + n) 0)) e) k l)
    (λ l. subst (λ (x : ℕ). get_or b (i + x) 0 ≤ most) (let q : n ≡ k = omega arith in q)
    (ltb-false most (get_or b (i + n) 0) (or_right (above most b i n) (ltb most (get_or b (i + n) 0)) e)))

none_left : (x : ℕ) → x ≤ 0 → x ≡ 0
none_left x h = omega arith

-- the tests that an unfit state meets, one by one
record Fit (b : List ℕ) : Type 0 where
  flags : (k : ℕ) → k < 7 → get_or b (6 + k) 0 ≤ 1
  pin : get_or b 15 0 ≤ 1
  modify : get_or b 16 0 ≤ 1
  saved : (eqb (get_or b 16 0) 0 && ltb 0 (get_or b 17 0)) ≡ false
  second : get_or b 18 0 ≤ 5
  mark : get_or b 19 0 ≤ 1
  set : get_or b 20 0 ≤ 1
  spare : (k : ℕ) → k < 8 → get_or b (24 + k) 0 ≡ 0

fit : (b : List ℕ) → unfit b ≡ false → Fit b
unfolding unfit odd_flag spare_used
fit b e =
    let t = eqb (get_or b 16 0) 0 && ltb 0 (get_or b 17 0) in
    let u = ltb 5 (get_or b 18 0) in
    let p = ltb 1 (get_or b 15 0) in
    let m = ltb 1 (get_or b 16 0) in
    let a = ltb 1 (get_or b 19 0) in
    let n = ltb 1 (get_or b 20 0) in
    let f = above 1 b 6 7 in
    let e1 = or_left (f || p || m || a || n || t || u) (above 0 b 24 8) e in
    let e2 = or_left (f || p || m || a || n || t) u e1 in
    let e3 = or_left (f || p || m || a || n) t e2 in
    let e4 = or_left (f || p || m || a) n e3 in
    let e5 = or_left (f || p || m) a e4 in
    let e6 = or_left (f || p) m e5 in
    record {
      flags = none_above 1 b 6 7 (or_left f p e6);
      pin = ltb-false 1 (get_or b 15 0) (or_right f p e6);
      modify = ltb-false 1 (get_or b 16 0) (or_right (f || p) m e5);
      saved = or_right (f || p || m || a || n) t e2;
      second = ltb-false 5 (get_or b 18 0) (or_right (f || p || m || a || n || t) u e1);
      mark = ltb-false 1 (get_or b 19 0) (or_right (f || p || m) a e4);
      set = ltb-false 1 (get_or b 20 0) (or_right (f || p || m || a) n e3);
      spare = λ k h. none_left (get_or b (24 + k) 0) (none_above 0 b 24 8 (or_right (f || p || m || a || n || t || u) (above 0 b 24 8) e) k h);
    }

-- a list of 32 bytes, spelled out
spelled : (b : List ℕ) → length b ≡ 32 → b ≡ listed (λ (k : ℕ). get_or b k 0) 0 32
spelled b h = whole (λ (k : ℕ). get_or b k 0) b 32 h (λ k l. refl)

pub bytes_again : (b : List ℕ) → length b ≡ 32 → unfit b ≡ false → packed (unpacked b) ≡ b
unfolding packed unpacked
bytes_again b h e =
    let f = fit b e in
    rw (
      flag_kept (get_or b 6 0) (f.flags 0 (omega arith)),
      flag_kept (get_or b 7 0) (f.flags 1 (omega arith)),
      flag_kept (get_or b 8 0) (f.flags 2 (omega arith)),
      flag_kept (get_or b 9 0) (f.flags 3 (omega arith)),
      flag_kept (get_or b 10 0) (f.flags 4 (omega arith)),
      flag_kept (get_or b 11 0) (f.flags 5 (omega arith)),
      flag_kept (get_or b 12 0) (f.flags 6 (omega arith)),
      flag_kept (get_or b 15 0) f.pin,
      modify_kept (get_or b 16 0) (get_or b 17 0) f.modify,
      saved_kept (get_or b 16 0) (get_or b 17 0) f.modify f.saved,
      awaited_kept (get_or b 18 0) f.second,
      flag_kept (get_or b 19 0) f.mark,
      set_kept (get_or b 20 0) f.set,
    )
    (rw (
      f.spare 0 (omega arith),
      f.spare 1 (omega arith),
      f.spare 2 (omega arith),
      f.spare 3 (omega arith),
      f.spare 4 (omega arith),
      f.spare 5 (omega arith),
      f.spare 6 (omega arith),
      f.spare 7 (omega arith),
    ) at (sym (spelled b h)))

-- ---- the state from its bytes, those that are made from a register each by what it is

pub packed_from : (r : Registers) {bias adc shl reverse entire on indicator pin modify saved second mark set : ℕ}
    → bias ≡ flag_byte r.bias → adc ≡ flag_byte r.adc → shl ≡ flag_byte r.shl → reverse ≡ flag_byte r.reverse → entire ≡ flag_byte r.entire
    → on ≡ flag_byte r.on → indicator ≡ flag_byte r.indicator → pin ≡ flag_byte r.pin_low → modify ≡ modify_byte r.modify_read
    → saved ≡ saved_byte r.modify_read → second ≡ awaited_byte r.awaited → mark ≡ flag_byte r.fresh → set ≡ set_byte r.beside.set
    → (r.page ∷ r.column.0 ∷ r.start_line ∷ r.contrast ∷ r.resistor ∷ r.power ∷ bias ∷ adc ∷ shl ∷ reverse ∷ entire ∷ on ∷ indicator
    ∷ r.indicator_value ∷ r.holder ∷ pin ∷ modify ∷ saved ∷ second ∷ mark ∷ set ∷ r.beside.com0 ∷ r.beside.duty ∷ r.beside.inversion
    ∷ 0 ∷ 0 ∷ 0 ∷ 0 ∷ 0 ∷ 0 ∷ 0 ∷ 0 ∷ []) ≡ packed r
unfolding packed
packed_from r e6 e7 e8 e9 e10 e11 e12 e15 e16 e17 e18 e19 e20 = rw (e6, e7, e8, e9, e10, e11, e12, e15, e16, e17, e18, e19, e20)

-- and the registers, from what is made of more than one byte or of one that is no number
pub unpacked_from : (b : List ℕ) {m : ModifyRead} {a : Awaited} {s : Beside} → m ≡ modify_of (get_or b 16 0) (get_or b 17 0) → a ≡ awaited_of (get_or b 18 0) → s ≡ beside_of b
    → regs (get_or b 0 0) (column (get_or b 1 0)) (get_or b 2 0) (get_or b 3 0) (get_or b 4 0) (get_or b 5 0)
    (eqb (get_or b 6 0) 1) (eqb (get_or b 7 0) 1) (eqb (get_or b 8 0) 1) (eqb (get_or b 9 0) 1) (eqb (get_or b 10 0) 1) (eqb (get_or b 11 0) 1)
    (eqb (get_or b 12 0) 1) (get_or b 13 0) (get_or b 14 0) (eqb (get_or b 15 0) 1) m a (eqb (get_or b 19 0) 1) s ≡ unpacked b
unfolding unpacked
unpacked_from b e f g = rw (e, f, g)

-- ---- what is packed stands for registers

flag_fits : (x : Bool) → ltb 1 (flag_byte x) ≡ false
flag_fits true = refl
flag_fits false = refl

modify_fits : (m : ModifyRead) → ltb 1 (modify_byte m) ≡ false
modify_fits Off = refl
modify_fits (On c) = refl

saved_fits : (m : ModifyRead) → (eqb (modify_byte m) 0 && ltb 0 (saved_byte m)) ≡ false
saved_fits Off = refl
saved_fits (On c) = refl

awaited_fits : (a : Awaited) → ltb 5 (awaited_byte a) ≡ false
awaited_fits awaited.Nothing = refl
awaited_fits awaited.Contrast = refl
awaited_fits awaited.Indicator = refl
awaited_fits awaited.Com0 = refl
awaited_fits awaited.Duty = refl
awaited_fits awaited.Inversion = refl

set_fits : (s : CommandSet) → ltb 1 (set_byte s) ≡ false
set_fits Old = refl
set_fits New = refl

pub packed_fit : (r : Registers) → unfit (packed r) ≡ false
unfolding packed unfit odd_flag spare_used
packed_fit r =
    rw (
      flag_fits r.bias,
      flag_fits r.adc,
      flag_fits r.shl,
      flag_fits r.reverse,
      flag_fits r.entire,
      flag_fits r.on,
      flag_fits r.indicator,
      flag_fits r.pin_low,
      modify_fits r.modify_read,
      saved_fits r.modify_read,
      awaited_fits r.awaited,
      flag_fits r.fresh,
      set_fits r.beside.set,
    )
