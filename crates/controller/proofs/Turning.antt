-- A turn is the cycle's answer taken apart, and what it leaves is the chip after the cycle.
-- Assumes nothing.
use Prim.Native.Nat.{ℕ}
use mathlib.Core.Path.{◌≡◌, ◌∙◌, ap}
use mathlib.Core.List.{List}
use Rattle.std.specs.Prelude.{Result}
use Rattle.paper.specs.declared.refusal.Refusal.{Refusal}
use Rattle.paper.specs.declared.sheet.Sheet.{Sheet}
use Rattle.registers.specs.declared.Registers.{Registers}
use Rattle.controller.specs.Cycle.{Outcome, outcome, answer, memory_after, Cycled}
use Rattle.controller.specs.State.{state, after_by, step}
use Rattle.controller.specs.Turn.{turn_of, IsTurn}
use Rattle.controller.specs.declared.cycle.Answer.{Answer}
use Rattle.controller.specs.declared.turn.Turn.{Turn}

module _ {k : Sheet} {r : Registers} {m : List ℕ} {kind value : ℕ} {left : List ℕ} where
  -- whatever a cycle answers, its turn is that answer taken apart
  pub turn_told : {a : Result Answer Refusal} → Cycled k r m kind value a left → IsTurn k r m kind value (turn_of r (outcome a)) left
  turn_told q = record { tells = ap (turn_of r) q.tells; leaves = q.leaves }

  -- and the chip after it is the chip's next state
  pub cycle_steps : {a : Result Answer Refusal} → Cycled k r m kind value a left → state (after_by r (outcome a).registers) left ≡ step k (state r m) (kind, value)
  cycle_steps {a} q =
      ap (λ (o : Outcome). state (after_by r o.registers) left) q.tells
      ∙ ap (state (after_by r (answer k r m kind value).registers)) q.leaves

  pub turn_steps : {t : Turn} → IsTurn k r m kind value t left → state t.registers left ≡ step k (state r m) (kind, value)
  turn_steps {t} q =
      ap (state t.registers) q.leaves
      ∙ ap (λ (x : Turn). state x.registers (memory_after k r m kind value)) q.tells
