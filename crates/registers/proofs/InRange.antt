-- In range, as one test and line by line; what a promise about power-up fixes; and where the two chips' ranges part.
-- Assumes nothing.
use Prim.Native.Nat.{ℕ, ◌*◌, ◌≤◌, ◌<◌}
use mathlib.Core.Path.{◌≡◌, refl, ap, sym, subst, ◌∙◌}
use mathlib.Core.Bool.{Bool, true, false, ◌||◌}
use mathlib.Core.Logic.{◌≢◌}
use native.Mathlib.Omega.{arith}
use lib.Dec.{T, ltb, leb, eqb}
use borrow.Author.Tests.{le-ltb, lt-leb, ltb-false, leb-false, eqb-false, ne_eqb}
use Rattle.paper.specs.Sheet.{Sensible, sheet0713, sheet0717}
use Rattle.paper.specs.declared.sheet.Sheet.{Sheet}
use Rattle.paper.proofs.Exactly.{Exactly}
use Rattle.instructions.specs.Added.{of_other}
use Rattle.instructions.specs.declared.added.CommandSet.{CommandSet}
use Rattle.instructions.specs.declared.added.CommandSet.TheVariants.{Old, New}
use Rattle.instructions.specs.declared.instruction.Awaited.{Awaited}
use Rattle.instructions.specs.declared.instruction.Awaited.TheVariants.{Nothing}
use Rattle.registers.specs.Beside.{besides, start_beside, outside_beside, RangedBeside}
use Rattle.registers.specs.Registers.{with_set, start, outside, saved_of, Ranged, PoweredUp, PoweredUpIn}
use Rattle.registers.specs.declared.Beside.{Beside}
use Rattle.registers.specs.declared.Registers.{Registers}

-- nine tests of which none holds
none_of : (a b c d e f g h i : Bool) → a || b || c || d || e || f || g || h || i ≡ false
    → (a ≡ false) × (b ≡ false) × (c ≡ false) × (d ≡ false) × (e ≡ false) × (f ≡ false) × (g ≡ false) × (h ≡ false) × (i ≡ false)
none_of false false false false false false false false false p = (refl, refl, refl, refl, refl, refl, refl, refl, refl)
none_of true b c d e f g h i p = absurd (subst T p tt)
none_of false true c d e f g h i p = absurd (subst T p tt)
none_of false false true d e f g h i p = absurd (subst T p tt)
none_of false false false true e f g h i p = absurd (subst T p tt)
none_of false false false false true f g h i p = absurd (subst T p tt)
none_of false false false false false true g h i p = absurd (subst T p tt)
none_of false false false false false false true h i p = absurd (subst T p tt)
none_of false false false false false false false true i p = absurd (subst T p tt)
none_of false false false false false false false false true p = absurd (subst T p tt)

pub ranged : (k : Sheet) (r : Registers) → Ranged k r → outside_beside r.awaited r.beside ≡ false → outside k r ≡ false
unfolding outside
ranged k r g e =
    simp (
      le-ltb 15 r.page (omega arith),
      lt-leb (k.highs * 16) r.column.0 (omega arith),
      le-ltb 63 r.start_line (omega arith),
      le-ltb 63 r.contrast (omega arith),
      le-ltb 7 r.resistor (omega arith),
      le-ltb 7 r.power (omega arith),
      le-ltb 3 r.indicator_value (omega arith),
      lt-leb (k.highs * 16) (saved_of r.modify_read) (omega arith),
      e,
    )

none_outside : (k : Sheet) (r : Registers) → outside k r ≡ false
    → (ltb 15 r.page ≡ false) × (leb (k.highs * 16) r.column.0 ≡ false) × (ltb 63 r.start_line ≡ false) × (ltb 63 r.contrast ≡ false)
    × (ltb 7 r.resistor ≡ false) × (ltb 7 r.power ≡ false) × (ltb 3 r.indicator_value ≡ false) × (leb (k.highs * 16) (saved_of r.modify_read) ≡ false)
    × (outside_beside r.awaited r.beside ≡ false)
unfolding outside
none_outside k r e = none_of (ltb 15 r.page) (leb (k.highs * 16) r.column.0) (ltb 63 r.start_line) (ltb 63 r.contrast) (ltb 7 r.resistor) (ltb 7 r.power) (ltb 3 r.indicator_value) (leb (k.highs * 16) (saved_of r.modify_read)) (outside_beside r.awaited r.beside) e

pub ranges : (k : Sheet) (r : Registers) → outside k r ≡ false → Ranged k r
ranges k r e =
    let f = none_outside k r e in
    record {
      page = omega (arith, ltb-false 15 r.page f.0);
      column = omega (arith, leb-false (k.highs * 16) r.column.0 f.1);
      start_line = omega (arith, ltb-false 63 r.start_line f.2);
      contrast = omega (arith, ltb-false 63 r.contrast f.3);
      resistor = omega (arith, ltb-false 7 r.resistor f.4);
      power = omega (arith, ltb-false 7 r.power f.5);
      indicator_value = omega (arith, ltb-false 3 r.indicator_value f.6);
      saved = omega (arith, leb-false (k.highs * 16) (saved_of r.modify_read) f.7);
    }

pub ranges_beside : (k : Sheet) (r : Registers) → outside k r ≡ false → outside_beside r.awaited r.beside ≡ false
ranges_beside k r e = (none_outside k r e).8

-- ---- what stands beside, line by line

pub beside_exactly : (a : Awaited) (b : Beside) → Exactly (outside_beside a b ≡ false) (RangedBeside a b)
unfolding outside_beside
beside_exactly a b = (
  λ e.
      let f = none_of false false (ltb 79 b.com0) (ltb b.duty 17) (ltb 81 b.duty) (eqb b.inversion 1) (eqb b.inversion 2) (ltb 33 b.inversion) (of_other b.set a) e in
      record {
        com0 = ltb-false 79 b.com0 f.2;
        duty_least = ltb-false b.duty 17 f.3;
        duty_most = ltb-false 81 b.duty f.4;
        not_1 = eqb-false b.inversion 1 f.5;
        not_2 = eqb-false b.inversion 2 f.6;
        inversion_most = ltb-false 33 b.inversion f.7;
        own = f.8;
      },
  λ g. rw (
    le-ltb 79 b.com0 g.com0,
    le-ltb b.duty 17 g.duty_least,
    le-ltb 81 b.duty g.duty_most,
    ne_eqb b.inversion 1 g.not_1,
    ne_eqb b.inversion 2 g.not_2,
    le-ltb 33 b.inversion g.inversion_most,
    g.own,
  ),
)

-- so values that the bytes can set are in range, with a byte of their own set awaited or none
pub set_ranged : (a : Awaited) (set : CommandSet) (com0 duty inversion : ℕ) → com0 ≤ 79 → 17 ≤ duty → duty ≤ 81 → inversion ≢ 1 → inversion ≢ 2 → inversion ≤ 33
    → of_other set a ≡ false → outside_beside a (besides set com0 duty inversion) ≡ false
set_ranged a set com0 duty inversion c l m one two n o =
    (beside_exactly a (besides set com0 duty inversion)).1 (record { com0 = c; duty_least = l; duty_most = m; not_1 = one; not_2 = two; inversion_most = n; own = o })

-- the three stay in range whatever else is awaited, in whatever set, if that is of the set
pub owned_ranged : (a : Awaited) (b : Beside) → outside_beside a b ≡ false → (c : Awaited) (set : CommandSet) → of_other set c ≡ false
    → outside_beside c (besides set b.com0 b.duty b.inversion) ≡ false
owned_ranged a b e c set o =
    let g = (beside_exactly a b).0 e in
    set_ranged c set b.com0 b.duty b.inversion g.com0 g.duty_least g.duty_most g.not_1 g.not_2 g.inversion_most o

-- in range, all of it line by line
pub inside_exactly : (k : Sheet) (r : Registers) → Exactly (outside k r ≡ false) (Ranged k r × RangedBeside r.awaited r.beside)
inside_exactly k r = (
  λ e. (ranges k r e, (beside_exactly r.awaited r.beside).0 (ranges_beside k r e)),
  λ g. ranged k r g.0 ((beside_exactly r.awaited r.beside).1 g.1),
)

-- a byte of the old set is awaited only in the old set, and one of the new only in the new
pub own_awaited : (k : Sheet) (r : Registers) → outside k r ≡ false → of_other r.beside.set r.awaited ≡ false
own_awaited k r e = ((inside_exactly k r).0 e).1.own

-- ---- power-up

-- two admitted answers of power_up are equal, and two of power_up_in
pub powered_one : {k : Sheet} {r s : Registers} → PoweredUp k r → PoweredUp k s → r ≡ s
powered_one f g = f.tells ∙ sym g.tells

pub powered_in_one : {k : Sheet} {set : CommandSet} {r s : Registers} → PoweredUpIn k set r → PoweredUpIn k set s → r ≡ s
powered_in_one f g = f.tells ∙ sym g.tells

-- power-up is in the old set
pub powered_old : {k : Sheet} {r : Registers} → PoweredUp k r → PoweredUpIn k Old r
powered_old p = record { tells = p.tells }

-- the start values are in range, in either set
pub start_beside_lem : (set : CommandSet) → outside_beside Nothing (start_beside set) ≡ false
unfolding outside_beside
start_beside_lem Old = refl
start_beside_lem New = refl

pub start_inside : (k : Sheet) → Sensible k → (set : CommandSet) (holder : ℕ) (low : Bool) → outside k (with_set (start k holder low) set) ≡ false
start_inside k g set holder low = ranged k (with_set (start k holder low) set) (omega (arith, g.wide, g.first)) (start_beside_lem set)

-- and so are power-up's registers
pub powered_in_inside : (k : Sheet) → Sensible k → (set : CommandSet) (r : Registers) → PoweredUpIn k set r → outside k r ≡ false
powered_in_inside k g set r p = ap (outside k) p.tells ∙ start_inside k g set 0 false

pub powered_inside : (k : Sheet) → Sensible k → (r : Registers) → PoweredUp k r → outside k r ≡ false
powered_inside k g r p = powered_in_inside k g Old r (powered_old p)

-- ---- two chips

-- their ranges part in the columns alone
other_chip : (k c : Sheet) (r : Registers) → outside k r ≡ false → r.column.0 < c.highs * 16 → saved_of r.modify_read < c.highs * 16 → outside c r ≡ false
other_chip k c r e h s =
    let g = ranges k r e in
    ranged c r (record {
      page = g.page;
      column = h;
      start_line = g.start_line;
      contrast = g.contrast;
      resistor = g.resistor;
      power = g.power;
      indicator_value = g.indicator_value;
      saved = s;
    }) (ranges_beside k r e)

-- the KS0717's counter has seven bits: its registers are in range exactly if they are for the KS0713 and no column, saved or not, is
-- above 127
pub column_127 : (r : Registers) → Exactly (outside sheet0717 r ≡ false) ((outside sheet0713 r ≡ false) × (r.column.0 ≤ 127) × (saved_of r.modify_read ≤ 127))
column_127 r = (
  λ e. let g = ranges sheet0717 r e in
      (other_chip sheet0717 sheet0713 r e (omega (arith, g.column)) (omega (arith, g.saved)), omega (arith, g.column), omega (arith, g.saved)),
  λ h. other_chip sheet0713 sheet0717 r h.0 (omega (arith, h.1)) (omega (arith, h.2)),
)
