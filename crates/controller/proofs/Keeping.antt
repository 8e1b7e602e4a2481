-- Every cycle keeps what stands beside the sheet's registers in range, and so all registers; and none switches the command set.
-- Assumes nothing.
use Prim.Native.Nat.{ℕ, ◌+◌, ◌%◌, ◌≤◌, ◌<◌}
use mathlib.Core.Path.{◌≡◌, ◌∙◌, refl, ap, sym}
use mathlib.Core.Logic.{◌≢◌}
use mathlib.Core.Bool.{Bool, true, false, cond, ◌&&◌}
use mathlib.Core.Option.{Option, none, some}
use mathlib.Core.List.{List}
use native.Mathlib.Omega.{arith}
use lib.ListN.{length}
use lib.Dec.{leb, eqb}
use borrow.Author.Tests.{leb-true, eqb-false}
use Rattle.paper.specs.Sheet.{Sensible}
use Rattle.paper.specs.declared.sheet.Sheet.{Sheet}
use Rattle.paper.proofs.Cases.{chosen}
use Rattle.instructions.specs.Read.{read_of}
use Rattle.instructions.specs.Added.{of_other, read_added}
use Rattle.instructions.specs.declared.added.Added.{Added}
use Rattle.instructions.specs.declared.added.Added.TheVariants.{Com0Next, Com0Value, DutyNext, DutyValue, InversionNext, InversionValue, FrameInversion}
use Rattle.instructions.specs.declared.added.CommandSet.{CommandSet}
use Rattle.instructions.specs.declared.added.CommandSet.TheVariants.{Old, New}
use Rattle.instructions.specs.declared.instruction.Awaited.TheVariants as awaited
use Rattle.instructions.specs.declared.instruction.Instruction.{Instruction}
use Rattle.registers.specs.Beside.{outside_beside}
use Rattle.registers.specs.Registers.{outside}
use Rattle.registers.specs.declared.ModifyRead.{ModifyRead}
use Rattle.registers.specs.declared.ModifyRead.TheVariants.{Off, On}
use Rattle.registers.specs.declared.Registers.{Registers}
use Rattle.registers.proofs.InRange.{ranged, ranges, ranges_beside, beside_exactly, set_ranged, owned_ranged, start_beside_lem}
use Rattle.controller.specs.Execute.{executed}
use Rattle.controller.specs.Added.{com0_set, duty_set, lines_of, executed_added}
use Rattle.controller.specs.Cycle.{Outcome, written, after_read, instructed_by, instructed_added_by, instructed_in, carried, refusal, answer}
use Rattle.controller.specs.State.{after_by}
use Rattle.controller.proofs.Cells.{both_true}
use Rattle.controller.proofs.Ranges.{executed_leaves, stays_ranged}
use Rattle.controller.proofs.Sets.{in_either, added_set, executed_beside}

-- ---- the three numbers

com0_by : (t : Bool) (now v : ℕ) → leb v 79 ≡ t → now ≤ 79 → cond t v now ≤ 79
com0_by true now v e h = leb-true v 79 e
com0_by false now v e h = h

-- initial COM0 stays up to 79, the duty between 17 and 81, and the lines are none that a byte can't set
pub com0_ranged : (now v : ℕ) → now ≤ 79 → com0_set now v ≤ 79
unfolding com0_set
com0_ranged now v h = com0_by (leb v 79) now v refl h

duty_by : (t : Bool) (now v : ℕ) → leb 17 v && leb v 81 ≡ t → 17 ≤ now → now ≤ 81 → (17 ≤ cond t v now) × (cond t v now ≤ 81)
duty_by true now v e l h = let f = both_true (leb 17 v) (leb v 81) e in (leb-true 17 v f.0, leb-true v 81 f.1)
duty_by false now v e l h = (l, h)

pub duty_ranged : (now v : ℕ) → 17 ≤ now → now ≤ 81 → (17 ≤ duty_set now v) × (duty_set now v ≤ 81)
unfolding duty_set
duty_ranged now v l h = duty_by (leb 17 v && leb v 81) now v refl l h

lines_by_lem : (t : Bool) (v : ℕ) → eqb v 0 ≡ t → v < 32 → (cond t 0 (v + 2) ≢ 1) × (cond t 0 (v + 2) ≢ 2) × (cond t 0 (v + 2) ≤ 33)
lines_by_lem true v e h = (λ z. omega arith, λ z. omega arith, omega arith)
lines_by_lem false v e h = let n = eqb-false v 0 e in (λ z. omega arith, λ z. omega arith, omega arith)

pub lines_ranged : (v : ℕ) → (lines_of v ≢ 1) × (lines_of v ≢ 2) × (lines_of v ≤ 33)
unfolding lines_of
lines_ranged v = lines_by_lem (eqb (v % 32) 0) (v % 32) refl (omega arith)

-- ---- what stands beside: a byte of the new set keeps the three in range, and awaits a byte of its own set

abbrev InsideBeside : Registers → Type 0
InsideBeside r = outside_beside r.awaited r.beside ≡ false

instructed_beside : (k : Sheet) (r : Registers) (n : ℕ) (x : Option Instruction) → r.beside.set ≡ Old → InsideBeside r
    → InsideBeside (after_by r (instructed_by k r n x).registers)
instructed_beside k r n (some i) s e =
    let o = ((beside_exactly r.awaited r.beside).0 e).own in
    let q = (executed_leaves k r i).1 (ap (λ x. of_other x r.awaited) (sym s) ∙ o) in
    ap (outside_beside (executed k r i).awaited) (executed_beside k r i)
    ∙ owned_ranged r.awaited r.beside e (executed k r i).awaited r.beside.set (ap (λ x. of_other x (executed k r i).awaited) s ∙ q)
instructed_beside k r n none s e = e

executed_added_beside : (r : Registers) (i : Added) → r.beside.set ≡ New → InsideBeside r → InsideBeside (executed_added r i)
executed_added_beside r Com0Next s e = owned_ranged r.awaited r.beside e awaited.Com0 r.beside.set (ap (λ x. of_other x awaited.Com0) s)
executed_added_beside r (Com0Value v) s e =
    let g = (beside_exactly r.awaited r.beside).0 e in
    set_ranged awaited.Nothing r.beside.set _ _ _ (com0_ranged r.beside.com0 v g.com0) g.duty_least g.duty_most g.not_1 g.not_2 g.inversion_most refl
executed_added_beside r DutyNext s e = owned_ranged r.awaited r.beside e awaited.Duty r.beside.set (ap (λ x. of_other x awaited.Duty) s)
executed_added_beside r (DutyValue v) s e =
    let g = (beside_exactly r.awaited r.beside).0 e in
    let d = duty_ranged r.beside.duty v g.duty_least g.duty_most in
    set_ranged awaited.Nothing r.beside.set _ _ _ g.com0 d.0 d.1 g.not_1 g.not_2 g.inversion_most refl
executed_added_beside r InversionNext s e = owned_ranged r.awaited r.beside e awaited.Inversion r.beside.set (ap (λ x. of_other x awaited.Inversion) s)
executed_added_beside r (InversionValue v) s e =
    let g = (beside_exactly r.awaited r.beside).0 e in
    let n = lines_ranged v in
    set_ranged awaited.Nothing r.beside.set _ _ _ g.com0 g.duty_least g.duty_most n.0 n.1 n.2 refl
executed_added_beside r FrameInversion s e =
    let g = (beside_exactly r.awaited r.beside).0 e in
    set_ranged r.awaited r.beside.set _ _ 0 g.com0 g.duty_least g.duty_most (λ z. omega arith) (λ z. omega arith) (omega arith) g.own

added_beside : (r : Registers) (n : ℕ) (x : Option Added) → r.beside.set ≡ New → InsideBeside r → InsideBeside (after_by r (instructed_added_by r n x).registers)
added_beside r n (some i) s e = executed_added_beside r i s e
added_beside r n none s e = e

in_set_beside : (k : Sheet) (r : Registers) (value : ℕ) (set : CommandSet) → r.beside.set ≡ set → InsideBeside r
    → InsideBeside (after_by r (instructed_in k r value set).registers)
in_set_beside k r value Old s e = instructed_beside k r _ (read_of k r.awaited value).value s e
in_set_beside k r value New s e = added_beside r _ (read_added r.awaited value).value s e

read_beside : (w : ℕ) (r : Registers) (m : ModifyRead) (b : ℕ) → InsideBeside r → InsideBeside (after_read w r m b)
unfolding written
read_beside w r Off b e = e
read_beside w r (On c) b e = e

pub stays_beside : (k : Sheet) (r : Registers) (m : List ℕ) (kind value : ℕ) → InsideBeside r → InsideBeside (after_by r (answer k r m kind value).registers)
unfolding answer carried written
stays_beside k r m kind value e =
    let P : Outcome → Type 0 = λ o. InsideBeside (after_by r o.registers) in
    chosen P (eqb (refusal k (length m) r kind value) 0)
    (chosen P (eqb kind 0) (in_set_beside k r value r.beside.set refl e)
    (chosen P (eqb kind 1) e
    (chosen P (eqb kind 2) e
    (chosen P (eqb kind 3) (read_beside k.width r r.modify_read _ e)
    (chosen P (eqb kind 4) (start_beside_lem r.beside.set) e)))))
    e

-- so number 2 is never given to a run that starts in range
pub stays_inside : (k : Sheet) → Sensible k → (r : Registers) (m : List ℕ) (kind value : ℕ) → outside k r ≡ false
    → outside k (after_by r (answer k r m kind value).registers) ≡ false
stays_inside k g r m kind value e = ranged k _ (stays_ranged k g r m kind value (ranges k r e)) (stays_beside k r m kind value (ranges_beside k r e))

-- ---- no cycle switches the set: pin low keeps it too

instructed_set : (k : Sheet) (r : Registers) (n : ℕ) (x : Option Instruction) → (after_by r (instructed_by k r n x).registers).beside.set ≡ r.beside.set
instructed_set k r n (some i) = ap (λ b. b.set) (executed_beside k r i)
instructed_set k r n none = refl

added_set_by : (r : Registers) (n : ℕ) (x : Option Added) → (after_by r (instructed_added_by r n x).registers).beside.set ≡ r.beside.set
added_set_by r n (some i) = added_set r i
added_set_by r n none = refl

read_set : (w : ℕ) (r : Registers) (m : ModifyRead) (b : ℕ) → (after_read w r m b).beside.set ≡ r.beside.set
unfolding written
read_set w r Off b = refl
read_set w r (On c) b = refl

pub stays_set : (k : Sheet) (r : Registers) (m : List ℕ) (kind value : ℕ) → (after_by r (answer k r m kind value).registers).beside.set ≡ r.beside.set
unfolding answer carried written
stays_set k r m kind value =
    let P : Outcome → Type 0 = λ o. (after_by r o.registers).beside.set ≡ r.beside.set in
    chosen P (eqb (refusal k (length m) r kind value) 0)
    (chosen P (eqb kind 0)
    (in_either P k r value (instructed_set k r _ (read_of k r.awaited value).value) (added_set_by r _ (read_added r.awaited value).value) r.beside.set)
    (chosen P (eqb kind 1) refl
    (chosen P (eqb kind 2) refl
    (chosen P (eqb kind 3) (read_set k.width r r.modify_read _)
    (chosen P (eqb kind 4) refl refl)))))
    refl
