-- Whatever the reader reads is inside its fields and not refused, for any chip; and what it does not read is refused with 4, or with 2
-- where a byte of the new set is awaited.
-- Assumes nothing.
use Prim.Native.Nat.{ℕ, ◌-◌, ◌%◌, ◌≤◌, ◌<◌}
use mathlib.Core.Path.{◌≡◌, refl, ap}
use mathlib.Core.Bool.{Bool, true, false, cond}
use mathlib.Core.Logic.{◌⊎◌, inl, inr}
use mathlib.Core.Option.{Option, none, some}
use native.Mathlib.Omega.{arith}
use lib.Dec.{eqb, ltb, leb}
use borrow.Author.Tests.{ltb-true, ltb-false}
use Rattle.paper.specs.Refusal.{out_of_range, unassigned}
use Rattle.paper.specs.Told.{Told}
use Rattle.paper.specs.Sheet.{Sensible}
use Rattle.paper.specs.declared.sheet.Sheet.{Sheet}
use Rattle.paper.proofs.Cases.{chosen}
use Rattle.instructions.specs.Write.{field_of, flag_of, write_of}
use Rattle.instructions.specs.Read.{within, class_of, room_in, read_by, read_first, read_of}
use Rattle.instructions.specs.Added.{added_first, read_added, write_added}
use Rattle.instructions.specs.declared.added.Added.{Added}
use Rattle.instructions.specs.declared.instruction.Awaited.{Awaited}
use Rattle.instructions.specs.declared.instruction.Awaited.TheVariants as awaited
use Rattle.instructions.specs.declared.instruction.Instruction.{Instruction}
use Rattle.instructions.proofs.Fields.{field_given, flag_given}

-- an instruction is inside its fields: its byte is not refused
abbrev pub Fits : Sheet → Instruction → Type 0
Fits k i = (write_of k i).number ≡ 0

-- what is read is inside its fields as `write` has them, and nothing else is refused but with 4 or 2
abbrev pub Proper : {I : Type 0} → (I → Told ℕ) → ℕ → Option I → Type 0
Proper write n (some i) = (n ≡ 0) × ((write i).number ≡ 0)
Proper write n none = (n ≡ unassigned) ⊎ (n ≡ out_of_range)

field_fits : (base count v : ℕ) → v < count → (field_of base count v).number ≡ 0
field_fits base count v h = ap (λ t. t.number) (field_given base count v h)

flag_fits : (off on : ℕ) (f : Bool) → (flag_of off on f).number ≡ 0
flag_fits off on f = ap (λ t. t.number) (flag_given off on f)

room_by : (highs h : ℕ) (t : Bool) → ltb h highs ≡ t → h < 16 → 8 ≤ highs → cond t h (h - highs) < highs
room_by highs h true e l m = ltb-true h highs e
room_by highs h false e l m = omega (arith, ltb-false h highs e)

-- the counter has room for what is left of a high part
room_in_lem : (k : Sheet) → Sensible k → (h : ℕ) → h < 16 → room_in k.highs h < k.highs
unfolding room_in
room_in_lem k g h l = room_by k.highs h (ltb h k.highs) refl l g.high

by_proper : (k : Sheet) → Sensible k → (c b : ℕ) → Proper (write_of k) (read_by k c b).number (read_by k c b).value
unfolding read_by
by_proper k g c b =
    let P : Told Instruction → Type 0 = λ t. Proper (write_of k) t.number t.value in
    chosen P (eqb c 1) (refl, field_fits 0x00 16 (b % 16) (omega arith))
    (chosen P (eqb c 2) (refl, field_fits 0x10 k.highs (room_in k.highs (b % 16)) (room_in_lem k g (b % 16) (omega arith)))
    (chosen P (eqb c 3) (refl, field_fits 0x20 8 (b % 8) (omega arith))
    (chosen P (eqb c 4) (refl, field_fits 0x28 8 (b % 8) (omega arith))
    (chosen P (eqb c 5) (refl, field_fits 0x40 64 (b % 64) (omega arith))
    (chosen P (eqb c 6) (refl, refl)
    (chosen P (eqb c 7) (refl, flag_fits 0xa0 0xa1 (eqb (b % 2) 1))
    (chosen P (eqb c 8) (refl, flag_fits 0xa2 0xa3 (eqb (b % 2) 1))
    (chosen P (eqb c 9) (refl, flag_fits 0xa4 0xa5 (eqb (b % 2) 1))
    (chosen P (eqb c 10) (refl, flag_fits 0xa6 0xa7 (eqb (b % 2) 1))
    (chosen P (eqb c 11) (refl, refl)
    (chosen P (eqb c 12) (refl, refl)
    (chosen P (eqb c 13) (refl, flag_fits 0xae 0xaf (eqb (b % 2) 1))
    (chosen P (eqb c 14) (refl, field_fits 0xb0 16 (b % 16) (omega arith))
    (chosen P (eqb c 15) (refl, flag_fits 0xc0 0xc8 (leb 8 (b % 16)))
    (chosen P (eqb c 16) (refl, refl)
    (chosen P (eqb c 17) (refl, refl)
    (chosen P (eqb c 18) (refl, refl)
    (chosen P (eqb c 19) (refl, refl)
    (inl refl)))))))))))))))))))

pub read_proper : (k : Sheet) → Sensible k → (a : Awaited) (b : ℕ) → Proper (write_of k) (read_of k a b).number (read_of k a b).value
unfolding read_first
read_proper k g awaited.Nothing b = by_proper k g (class_of b) b
read_proper k g awaited.Contrast b = (refl, field_fits 0x00 64 (b % 64) (omega arith))
read_proper k g awaited.Indicator b = (refl, field_fits 0x00 4 (b % 4) (omega arith))
read_proper k g awaited.Com0 b = inr refl
read_proper k g awaited.Duty b = inr refl
read_proper k g awaited.Inversion b = inr refl

-- the new set's
pub added_proper : (a : Awaited) (b : ℕ) → Proper write_added (read_added a b).number (read_added a b).value
unfolding added_first
added_proper awaited.Nothing b =
    let P : Told Added → Type 0 = λ t. Proper write_added t.number t.value in
    chosen P (within 0x44 0x47 b) (refl, refl)
    (chosen P (within 0x48 0x4b b) (refl, refl)
    (chosen P (within 0x4c 0x4f b) (refl, refl)
    (chosen P (eqb b 0xe4) (refl, refl)
    (inl refl))))
added_proper awaited.Contrast b = inr refl
added_proper awaited.Indicator b = inr refl
added_proper awaited.Com0 b = (refl, field_fits 0x00 128 (b % 128) (omega arith))
added_proper awaited.Duty b = (refl, field_fits 0x00 128 (b % 128) (omega arith))
added_proper awaited.Inversion b = (refl, field_fits 0x00 32 (b % 32) (omega arith))
