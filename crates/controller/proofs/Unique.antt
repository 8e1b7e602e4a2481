-- What a cycle promises fixes its answer and the memory: what is told of an answer tells all answers apart, since it has an inverse.
-- And each number is given exactly if its line of document 01's table holds and none earlier in the order does.
-- Assumes nothing.
use Prim.Native.Nat.{ℕ, ◌*◌, ◌<◌}
use mathlib.Core.Path.{◌≡◌, ◌∙◌, refl, ap, sym}
use mathlib.Core.Bool.{Bool, true, false, cond, not, ◌&&◌}
use mathlib.Core.Option.{Option, none, some}
use mathlib.Core.List.{List}
use lib.ListN.{length}
use lib.Dec.{eqb}
use Rattle.std.specs.Prelude.{Result, Ok, Err}
use Rattle.paper.specs.Refusal.{wrong_size, out_of_range, pin_low, unassigned, wrong_cycle}
use Rattle.paper.specs.declared.refusal.Refusal.{Refusal}
use Rattle.paper.specs.declared.sheet.Sheet.{Sheet}
use Rattle.paper.proofs.Cases.{chosen}
use Rattle.paper.proofs.Telling.{apart, number_one, number_some}
use Rattle.instructions.specs.Read.{read_of, nothing_awaited}
use Rattle.instructions.specs.Added.{of_other, read_added, assigned_in}
use Rattle.instructions.specs.declared.added.Added.{Added}
use Rattle.instructions.specs.declared.added.CommandSet.{CommandSet}
use Rattle.instructions.specs.declared.added.CommandSet.TheVariants.{Old, New}
use Rattle.instructions.specs.declared.instruction.Instruction.{Instruction}
use Rattle.instructions.proofs.Unique.{told_number, number_by, number_read, number_added}
use Rattle.registers.specs.Registers.{outside}
use Rattle.registers.specs.declared.Registers.{Registers}
use Rattle.registers.proofs.InRange.{own_awaited}
use Rattle.controller.specs.Cycle.{Outcome, answered, outcome, refused_with, instructed_by, instructed_added_by, instructed_in, malformed, held_low, unread, refusal, carried, cycle_number, answer, Cycled}
use Rattle.controller.specs.declared.cycle.Answer.{Answer}
use Rattle.controller.specs.declared.cycle.Answer.TheVariants.{Done, Status, Read}

-- ---- one answer

back : Outcome → Answer
back o = by o.byte o.fresh o.registers
  where
    -- a byte without a mark is a status byte, whatever the registers; and what has neither byte nor registers is no answer
    by : Option ℕ → Option Bool → Option Registers → Answer
    by none f none = Status 0
    by none f (some r) = Done r
    by (some b) f none = Status b
    by (some b) none (some r) = Status b
    by (some b) (some f) (some r) = Read r b f

back_is : (a : Answer) → back (answered a) ≡ a
unfolding back
back_is (Done r) = refl
back_is (Status b) = refl
back_is (Read r b f) = refl

-- an answer has no number
unnumbered : (a : Answer) → (answered a).number ≡ 0
unnumbered (Done r) = refl
unnumbered (Status b) = refl
unnumbered (Read r b f) = refl

outcome_one : (a b : Result Answer Refusal) → outcome a ≡ outcome b → a ≡ b
outcome_one (Ok a) (Ok b) e = ap Ok (apart answered back back_is a b e)
outcome_one (Ok a) (Err s) e = absurd (number_some s (sym (ap (λ o. o.number) e) ∙ unnumbered a))
outcome_one (Err r) (Ok b) e = absurd (number_some r (ap (λ o. o.number) e ∙ unnumbered b))
outcome_one (Err r) (Err s) e = ap Err (number_one r s (ap (λ o. o.number) e))

-- two answers and two memories that a cycle's promise admits are equal
pub cycled_one : {k : Sheet} {r : Registers} {m : List ℕ} {kind value : ℕ} {a b : Result Answer Refusal} {left right : List ℕ}
    → Cycled k r m kind value a left → Cycled k r m kind value b right → (a ≡ b) × (left ≡ right)
cycled_one {a = a} {b = b} f g = (outcome_one a b (f.tells ∙ sym g.tells), f.leaves ∙ sym g.leaves)

-- ---- its number

-- what is equal where a test does not hold
if_inside : (t : Bool) (n : ℕ) {x y : ℕ} → (t ≡ false → x ≡ y) → cond t n x ≡ cond t n y
if_inside true n f = refl
if_inside false n f = f refl

-- a refusal before the instruction byte is looked at, or the number of what is carried out
in_order : (a b c d : Bool) (o : Outcome)
    → (cond (eqb (cond a wrong_size (cond b out_of_range (cond c wrong_cycle (cond d pin_low 0)))) 0) o
    (refused_with (cond a wrong_size (cond b out_of_range (cond c wrong_cycle (cond d pin_low 0)))))).number
    ≡ cond a wrong_size (cond b out_of_range (cond c wrong_cycle (cond d pin_low o.number)))
in_order true b c d o = refl
in_order false true c d o = refl
in_order false false true d o = refl
in_order false false false true o = refl
in_order false false false false o = refl

module _ (k : Sheet) (r : Registers) (value : ℕ) (h : value < 256) where
  -- an instruction has the number that is told of its byte
  read_number : (n : ℕ) (x : Option Instruction) → (instructed_by k r n x).number ≡ told_number n x
  read_number n (some i) = refl
  read_number n none = refl

  added_number_lem : (n : ℕ) (x : Option Added) → (instructed_added_by r n x).number ≡ told_number n x
  added_number_lem n (some i) = refl
  added_number_lem n none = refl

  -- that is 2 where a byte of the other set is awaited, and 4 where nothing is and the byte is unassigned
  instructed_number : (set : CommandSet) → (instructed_in k r value set).number ≡ number_by (of_other set r.awaited) (nothing_awaited r.awaited) (assigned_in set value)
  instructed_number Old = read_number _ (read_of k r.awaited value).value ∙ (number_read value h k r.awaited).1
  instructed_number New = added_number_lem _ (read_added r.awaited value).value ∙ (number_added value h r.awaited).1

  -- in range it is not 2; and only an instruction is refused so late
  carried_number : (t : Bool) (o : Outcome) → o.number ≡ 0 → outside k r ≡ false
      → (cond t (instructed_in k r value r.beside.set) o).number ≡ cond (t && (nothing_awaited r.awaited && not (assigned_in r.beside.set value))) unassigned 0
  carried_number true o e i =
      instructed_number r.beside.set
      ∙ ap (λ (x : Bool). number_by x (nothing_awaited r.awaited) (assigned_in r.beside.set value)) (own_awaited k r i)
  carried_number false o e i = e

  -- each number exactly if its line holds and none earlier does
  pub number_exactly : (m : List ℕ) (kind : ℕ) → (answer k r m kind value).number ≡ cycle_number k (length m) r kind value
  unfolding answer refusal carried cycle_number unread
  number_exactly m kind =
      in_order (not (eqb (length m) (9 * k.width))) (outside k r) (malformed kind value) (held_low r kind) _
      ∙ ap (λ (n : ℕ). cond (not (eqb (length m) (9 * k.width))) wrong_size n)
      (if_inside (outside k r) out_of_range
      (λ i. ap (λ (n : ℕ). cond (malformed kind value) wrong_cycle (cond (held_low r kind) pin_low n))
      (carried_number (eqb kind 0) _
      (let P : Outcome → Type 0 = λ o. o.number ≡ 0 in
      chosen P (eqb kind 1) refl (chosen P (eqb kind 2) refl (chosen P (eqb kind 3) refl (chosen P (eqb kind 4) refl refl)))) i)))
