-- Each instruction written as a byte is read as that instruction, where its byte is awaited.
-- Assumes nothing.
use Prim.Native.Nat.{ℕ, ◌+◌, ◌%◌, ◌<◌}
use mathlib.Core.Path.{◌≡◌, ◌∙◌, refl, ap, sym, subst}
use mathlib.Core.Bool.{true, false}
use native.Mathlib.Omega.{arith}
use lib.Dec.{T}
use borrow.Author.Tests.{lt-ltb}
use Rattle.paper.specs.Told.{Told, given}
use Rattle.paper.specs.Sheet.{Sensible}
use Rattle.paper.specs.declared.sheet.Sheet.{Sheet}
use Rattle.paper.proofs.Telling.{given_one}
use Rattle.instructions.specs.Write.{flag_of, write_of}
use Rattle.instructions.specs.Read.{class_of, room_in, read_by, read_first, read_of, awaited_for}
use Rattle.instructions.specs.declared.instruction.Instruction.{Instruction}
use Rattle.instructions.specs.declared.instruction.Instruction.TheVariants.{ColumnLow, ColumnHigh, Resistor, Power, StartLine, ContrastNext, ContrastValue, Adc, Bias, Entire, Reverse, IndicatorOff, IndicatorOn, IndicatorValue, Display, Page, Shl, ModifyReadOn, ModifyReadOff, Reset, Nop}
use Rattle.instructions.proofs.Classes.{alike, of_class}
use Rattle.instructions.proofs.Fields.{field_is}

-- the counter has room for a high part inside its field
pub room_kept : (highs h : ℕ) → h < highs → room_in highs h ≡ h
unfolding room_in
room_kept highs h l = simp (lt-ltb h highs l)

-- a value's byte is read by the class of its field
by_field : (k : Sheet) (class base count v b : ℕ) → T (alike class base count (λ x. false)) → v < count → base + v ≡ b → read_first k b ≡ read_by k class b
unfolding read_first
by_field k class base count v b t h e = ap (λ (c : ℕ). read_by k c b) (sym (of_class class base count (λ x. false) b t (omega arith) (omega arith) refl))

-- an instruction of one byte only
pub by_byte : {I : Type 0} (read : ℕ → Told I) (i : I) (x b : ℕ) → given x ≡ given b → read x ≡ given i → read b ≡ given i
by_byte read i x b e h = subst (λ (y : ℕ). read y ≡ given i) (given_one e) h

pub read_back : (k : Sheet) → Sensible k → (i : Instruction) (b : ℕ) → write_of k i ≡ given b → read_of k (awaited_for i) b ≡ given i
unfolding read_first read_by class_of flag_of
read_back k g (ColumnLow v) b e =
    let f = field_is 0x00 16 v b e in
    by_field k 1 0x00 16 v b tt f.0 f.1 ∙ ap (λ (y : ℕ). given (ColumnLow y)) (omega arith)
read_back k g (ColumnHigh v) b e =
    let f = field_is 0x10 k.highs v b e in
    let u : b % 16 ≡ v = omega (arith, g.byte) in
    by_field k 2 0x10 16 v b tt (omega (arith, g.byte)) f.1
    ∙ ap (λ (y : ℕ). given (ColumnHigh (room_in k.highs y))) u
    ∙ ap (λ (y : ℕ). given (ColumnHigh y)) (room_kept k.highs v f.0)
read_back k g (Resistor v) b e =
    let f = field_is 0x20 8 v b e in
    by_field k 3 0x20 8 v b tt f.0 f.1 ∙ ap (λ (y : ℕ). given (Resistor y)) (omega arith)
read_back k g (Power v) b e =
    let f = field_is 0x28 8 v b e in
    by_field k 4 0x28 8 v b tt f.0 f.1 ∙ ap (λ (y : ℕ). given (Power y)) (omega arith)
read_back k g (StartLine v) b e =
    let f = field_is 0x40 64 v b e in
    by_field k 5 0x40 64 v b tt f.0 f.1 ∙ ap (λ (y : ℕ). given (StartLine y)) (omega arith)
read_back k g ContrastNext b e = by_byte (read_first k) ContrastNext 0x81 b e refl
read_back k g (ContrastValue v) b e = let f = field_is 0x00 64 v b e in ap (λ (y : ℕ). given (ContrastValue y)) (omega arith)
read_back k g (Adc false) b e = by_byte (read_first k) (Adc false) 0xa0 b e refl
read_back k g (Adc true) b e = by_byte (read_first k) (Adc true) 0xa1 b e refl
read_back k g (Bias false) b e = by_byte (read_first k) (Bias false) 0xa2 b e refl
read_back k g (Bias true) b e = by_byte (read_first k) (Bias true) 0xa3 b e refl
read_back k g (Entire false) b e = by_byte (read_first k) (Entire false) 0xa4 b e refl
read_back k g (Entire true) b e = by_byte (read_first k) (Entire true) 0xa5 b e refl
read_back k g (Reverse false) b e = by_byte (read_first k) (Reverse false) 0xa6 b e refl
read_back k g (Reverse true) b e = by_byte (read_first k) (Reverse true) 0xa7 b e refl
read_back k g IndicatorOff b e = by_byte (read_first k) IndicatorOff 0xac b e refl
read_back k g IndicatorOn b e = by_byte (read_first k) IndicatorOn 0xad b e refl
read_back k g (IndicatorValue v) b e = let f = field_is 0x00 4 v b e in ap (λ (y : ℕ). given (IndicatorValue y)) (omega arith)
read_back k g (Display false) b e = by_byte (read_first k) (Display false) 0xae b e refl
read_back k g (Display true) b e = by_byte (read_first k) (Display true) 0xaf b e refl
read_back k g (Page v) b e =
    let f = field_is 0xb0 16 v b e in
    by_field k 14 0xb0 16 v b tt f.0 f.1 ∙ ap (λ (y : ℕ). given (Page y)) (omega arith)
read_back k g (Shl false) b e = by_byte (read_first k) (Shl false) 0xc0 b e refl
read_back k g (Shl true) b e = by_byte (read_first k) (Shl true) 0xc8 b e refl
read_back k g ModifyReadOn b e = by_byte (read_first k) ModifyReadOn 0xe0 b e refl
read_back k g ModifyReadOff b e = by_byte (read_first k) ModifyReadOff 0xee b e refl
read_back k g Reset b e = by_byte (read_first k) Reset 0xe2 b e refl
read_back k g Nop b e = by_byte (read_first k) Nop 0xe3 b e refl
