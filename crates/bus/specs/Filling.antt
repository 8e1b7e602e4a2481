-- Internal: what the functions that fill the outputs promise each other. No public promise cites it.
-- Assumes nothing.
use Rattle.std.specs.Prelude.{ℕ, ◌≡◌, List, map, set}
use Rattle.std.proofs.lemmas.List.Edits.{sets}
use Rattle.paper.specs.declared.sheet.Sheet.{Sheet}
use Rattle.controller.specs.Run.{BusCycle}
use Rattle.controller.specs.State.{State, step, run}
use Rattle.controller.specs.declared.turn.Turn.{Turn}
use Rattle.bus.specs.Cycles.{turn_by, turns}
use Rattle.bus.specs.Run.{Outputs, outputs, number_entry, read_entry, byte_entry, fresh_entry}

-- one answer at entry i, and answers from entry i on
abbrev pub put_at : Outputs → ℕ → Turn → Outputs
put_at o i t = outputs (set o.numbers i (number_entry t)) (set o.reads i (read_entry t)) (set o.bytes i (byte_entry t)) (set o.fresh i (fresh_entry t))

abbrev pub put_from : Outputs → ℕ → List Turn → Outputs
put_from o i ts = outputs (sets o.numbers i (map number_entry ts)) (sets o.reads i (map read_entry ts)) (sets o.bytes i (map byte_entry ts)) (sets o.fresh i (map fresh_entry ts))

-- a turn: the cycle x from the chip s, with its answer at entry i
pub record TurnPut (k : Sheet) (s : State) (x : BusCycle) (o : Outputs) (i : ℕ) (s' : State) (o' : Outputs) : Type 0 where
  pub after : s' ≡ step k s x
  pub put : o' ≡ put_at o i (turn_by k s x)

-- cycles from the chip s, with their answers from entry i on
pub record Filled (k : Sheet) (s : State) (xs : List BusCycle) (o : Outputs) (i : ℕ) (s' : State) (o' : Outputs) : Type 0 where
  pub after : s' ≡ run k s xs
  pub put : o' ≡ put_from o i (turns k s xs)
