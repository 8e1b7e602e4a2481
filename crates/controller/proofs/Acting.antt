-- What a cycle does in a state in which the bus can be used: one law for every instruction byte, and one for a data write. Nothing
-- is refused before the byte is looked at, and such a state is left. Status reads and pin cycles are carried out with the pin low too.
-- Assumes nothing.
use Prim.Native.Nat.{ℕ, ◌*◌}
use mathlib.Core.Path.{◌≡◌, ◌∙◌, refl, ap}
use mathlib.Core.Bool.{false, ◌||◌}
use mathlib.Core.List.{List}
use lib.ListN.{length}
use lib.Dec.{ltb, eqb}
use borrow.Author.Tests.{eq-eqb}
use Rattle.paper.specs.Told.{given}
use Rattle.paper.specs.Sheet.{Sensible}
use Rattle.paper.specs.declared.sheet.Sheet.{Sheet}
use Rattle.instructions.specs.Read.{read_of}
use Rattle.instructions.specs.declared.instruction.Instruction.{Instruction}
use Rattle.registers.specs.Registers.{with_fresh, outside}
use Rattle.registers.specs.declared.Registers.{Registers}
use Rattle.registers.proofs.InRange.{ranged}
use Rattle.controller.specs.Memory.{stored}
use Rattle.controller.specs.Cycle.{done, written, after_instruction, malformed, held_low, refusal, carried, kept, answer, memory_after}
use Rattle.controller.specs.Run.{BusCycle}
use Rattle.controller.specs.State.{State, state, after_by, step, number, Restartable}
use Rattle.controller.proofs.Cells.{both_false}
use Rattle.controller.proofs.Ranges.{executed_leaves, stays_long}
use Rattle.controller.proofs.Keeping.{stays_inside, stays_set}

-- ---- no number before 4

module _ (k : Sheet) (s : State) (kind value : ℕ) where
  pub passes : length s.memory ≡ 9 * k.width → outside k s.registers ≡ false → malformed kind value ≡ false → held_low s.registers kind ≡ false
      → refusal k (length s.memory) s.registers kind value ≡ 0
  unfolding refusal
  passes long ranged formed free = simp (eq-eqb (length s.memory) (9 * k.width) long, ranged, formed, free)

  -- then the cycle is carried out
  abbrev pub CarriedOut : Type 0
  CarriedOut = (answer k s.registers s.memory kind value ≡ carried k s.registers s.memory kind value)
      × (memory_after k s.registers s.memory kind value ≡ kept k.width s.registers s.memory kind value)

  pub carried_out : refusal k (length s.memory) s.registers kind value ≡ 0 → CarriedOut
  unfolding answer memory_after
  carried_out e = (rw e, rw e)

-- with the pin high, whatever is a cycle
module _ {k : Sheet} {s : State} (h : Restartable k s) (kind value : ℕ) (e : malformed kind value ≡ false) where
  clear : CarriedOut k s kind value
  clear = carried_out k s kind value (passes k s kind value h.long h.ranged e (rw h.high))

  pub carries : answer k s.registers s.memory kind value ≡ carried k s.registers s.memory kind value
  carries = clear.0

  pub keeps : memory_after k s.registers s.memory kind value ≡ kept k.width s.registers s.memory kind value
  keeps = clear.1

-- with the pin low or high, a kind that is not 0, 1 or 3
pub unheld : (k : Sheet) (s : State) (kind : ℕ) → length s.memory ≡ 9 * k.width → outside k s.registers ≡ false → malformed kind 0 ≡ false
    → ltb kind 2 || eqb kind 3 ≡ false → CarriedOut k s kind 0
unheld k s kind long ranged formed free = carried_out k s kind 0 (passes k s kind 0 long ranged formed (rw free (both_false s.registers.pin_low)))

-- ---- what is done

-- an answer that gives registers
pub does : (k : Sheet) (s : State) (x : BusCycle) (r : Registers) (m : List ℕ) → answer k s.registers s.memory x.0 x.1 ≡ done r
    → memory_after k s.registers s.memory x.0 x.1 ≡ m → (number k s x ≡ 0) × (step k s x ≡ state r m)
does k s x r m e f =
    (ap (λ o. o.number) e, ap (λ o. state (after_by s.registers o.registers) (memory_after k s.registers s.memory x.0 x.1)) e ∙ ap (state r) f)

-- a cycle that leaves the pin high leaves a state in which the bus can be used: in range, and in the old set
pub stays_restartable : (k : Sheet) → Sensible k → (s : State) (x : BusCycle) → Restartable k s → (step k s x).registers.pin_low ≡ s.registers.pin_low
    → Restartable k (step k s x)
stays_restartable k g s x h p = record {
  long = stays_long k s.registers s.memory x.0 x.1 ∙ h.long;
  ranged = stays_inside k g s.registers s.memory x.0 x.1 h.ranged;
  high = p ∙ h.high;
  old = stays_set k s.registers s.memory x.0 x.1 ∙ h.old;
}

-- an instruction byte that is read as i, with whatever is awaited
pub acts : (k : Sheet) → Sensible k → (s : State) (i : Instruction) (b : ℕ) → Restartable k s → read_of k s.registers.awaited b ≡ given i
    → (number k s (0, b) ≡ 0) × (step k s (0, b) ≡ state (after_instruction k s.registers i) s.memory) × Restartable k (step k s (0, b))
unfolding carried kept
acts k g s i b h e =
    let r = s.registers in
    let d = does k s (0, b) (after_instruction k r i) s.memory (carries h 0 b refl ∙ rw (h.old, e) refl) (keeps h 0 b refl) in (
      d.0,
      d.1,
      stays_restartable k g s (0, b) h (ap (λ t. t.registers.pin_low) d.1 ∙ (executed_leaves k r i).0),
    )

-- a data write, wherever the column stands
pub writes : (k : Sheet) → Sensible k → (s : State) (b : ℕ) → Restartable k s
    → (number k s (1, b) ≡ 0)
    × (step k s (1, b) ≡ state (with_fresh (written k.width s.registers b) false) (stored k.width s.memory s.registers.page s.registers.column.0 b))
    × Restartable k (step k s (1, b))
unfolding carried kept written
writes k g s b h =
    let r = s.registers in
    let m = stored k.width s.memory r.page r.column.0 b in
    let d = does k s (1, b) (with_fresh (written k.width r b) false) m (carries h 1 b refl) (keeps h 1 b refl) in (
      d.0,
      d.1,
      stays_restartable k g s (1, b) h (ap (λ t. t.registers.pin_low) d.1),
    )
