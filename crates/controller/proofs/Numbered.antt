-- The number of a refused cycle is 1 to 9, whatever the cycle; and what is not refused gives a byte or registers.
-- Assumes nothing.
use Prim.Native.Nat.{ℕ, ◌*◌, ◌≤◌}
use mathlib.Core.Path.{◌≡◌, refl}
use mathlib.Core.Bool.{Bool, true, false, cond, not}
use mathlib.Core.Logic.{◌⊎◌, inl, inr}
use mathlib.Core.Option.{Option, none, some}
use mathlib.Core.List.{List}
use native.Mathlib.Omega.{arith}
use lib.ListN.{length}
use lib.Dec.{eqb}
use borrow.Author.Tests.{eqb-false}
use Rattle.paper.specs.Sheet.{Sensible}
use Rattle.paper.specs.declared.sheet.Sheet.{Sheet}
use Rattle.paper.proofs.Cases.{chosen}
use Rattle.paper.specs.Refusal.{out_of_range, unassigned}
use Rattle.instructions.specs.Write.{write_of}
use Rattle.instructions.specs.Read.{read_of}
use Rattle.instructions.specs.Added.{read_added, write_added}
use Rattle.instructions.specs.declared.added.Added.{Added}
use Rattle.instructions.specs.declared.instruction.Instruction.{Instruction}
use Rattle.instructions.proofs.Fits.{Proper, read_proper, added_proper}
use Rattle.registers.specs.Registers.{outside}
use Rattle.registers.specs.declared.Registers.{Registers}
use Rattle.controller.specs.Cycle.{Outcome, done, status_read, data_read, refused_with, instructed_by, instructed_added_by, carried, malformed, held_low, refusal, answer}
use Rattle.controller.proofs.Sets.{in_either}
use Rattle.controller.proofs.Ranges.{cond_le}

pub record Numbered (o : Outcome) : Type 0 where
  pub most : o.number ≤ 9
  pub some_number : o.byte ≡ none → o.registers ≡ none → 1 ≤ o.number

done_so : (r : Registers) → Numbered (done r)
done_so r = record { most = omega arith; some_number = λ e f. absurd (let z : ◌≡◌ {A = ℕ} 0 1 = cc in omega arith) }

status_so : (b : ℕ) → Numbered (status_read b)
status_so b = record { most = omega arith; some_number = λ e f. absurd (let z : ◌≡◌ {A = ℕ} 0 1 = cc in omega arith) }

read_so : (b : ℕ) (f : Bool) (r : Registers) → Numbered (data_read b f r)
read_so b f r = record { most = omega arith; some_number = λ e f. absurd (let z : ◌≡◌ {A = ℕ} 0 1 = cc in omega arith) }

refused_so_lem : (n : ℕ) → (n ≡ unassigned) ⊎ (n ≡ out_of_range) → Numbered (refused_with n)
refused_so_lem n (inl h) = record { most = omega arith; some_number = λ e f. omega arith }
refused_so_lem n (inr h) = record { most = omega arith; some_number = λ e f. omega arith }

instructed_so : (k : Sheet) (r : Registers) (n : ℕ) (x : Option Instruction) → Proper (write_of k) n x → Numbered (instructed_by k r n x)
instructed_so k r n (some i) h = done_so _
instructed_so k r n none h = refused_so_lem n h

added_so : (r : Registers) (n : ℕ) (x : Option Added) → Proper write_added n x → Numbered (instructed_added_by r n x)
added_so r n (some i) h = done_so _
added_so r n none h = refused_so_lem n h

carried_so : (k : Sheet) → Sensible k → (r : Registers) (m : List ℕ) (kind value : ℕ) → Numbered (carried k r m kind value)
unfolding carried
carried_so k g r m kind value =
    chosen Numbered (eqb kind 0)
    (in_either Numbered k r value
    (instructed_so k r _ (read_of k r.awaited value).value (read_proper k g r.awaited value))
    (added_so r _ (read_added r.awaited value).value (added_proper r.awaited value))
    r.beside.set)
    (chosen Numbered (eqb kind 1) (done_so _)
    (chosen Numbered (eqb kind 2) (status_so _)
    (chosen Numbered (eqb kind 3) (read_so _ _ _)
    (chosen Numbered (eqb kind 4) (done_so _) (done_so _)))))

refusal_most : (k : Sheet) (n : ℕ) (r : Registers) (kind value : ℕ) → refusal k n r kind value ≤ 9
unfolding refusal
refusal_most k n r kind value =
    cond_le (not (eqb n (9 * k.width))) 1 _ 9 (omega arith)
    (cond_le (outside k r) 2 _ 9 (omega arith)
    (cond_le (malformed kind value) 9 _ 9 (omega arith) (cond_le (held_low r kind) 3 0 9 (omega arith) (omega arith))))

by_refusal : (t : Bool) (n : ℕ) (o : Outcome) → eqb n 0 ≡ t → n ≤ 9 → Numbered o → Numbered (cond t o (refused_with n))
by_refusal true n o e l h = h
by_refusal false n o e l h = record { most = l; some_number = λ f g. let z = eqb-false n 0 e in omega arith }

pub numbered : (k : Sheet) → Sensible k → (r : Registers) (m : List ℕ) (kind value : ℕ) → Numbered (answer k r m kind value)
unfolding answer
numbered k g r m kind value =
    by_refusal (eqb (refusal k (length m) r kind value) 0) (refusal k (length m) r kind value) (carried k r m kind value) refl
    (refusal_most k (length m) r kind value) (carried_so k g r m kind value)
