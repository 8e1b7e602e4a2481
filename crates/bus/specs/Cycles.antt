-- A list of bytes as bus cycles, and what they answer one after the other.
-- Assumes nothing.
use Rattle.std.specs.Prelude.{ℕ, List, [], ◌∷◌}
use Rattle.paper.specs.declared.sheet.Sheet.{Sheet}
use Rattle.controller.specs.Cycle.{answer}
use Rattle.controller.specs.Run.{BusCycle}
use Rattle.controller.specs.State.{State, step}
use Rattle.controller.specs.Turn.{turn_of}
use Rattle.controller.specs.declared.turn.Turn.{Turn}

-- two bytes a cycle, kind and value; a last odd byte is no cycle
unfoldable pub cycles_of : List ℕ → List BusCycle
cycles_of [] = []
cycles_of (kind ∷ []) = []
cycles_of (kind ∷ value ∷ rest) = (kind, value) ∷ cycles_of rest

-- one cycle's answer, taken apart
abbrev pub turn_by : Sheet → State → BusCycle → Turn
turn_by k s x = turn_of s.registers (answer k s.registers s.memory x.0 x.1)

-- what the cycles answer, each from the chip that the one before left; a refused one changes nothing
abbrev pub turns : Sheet → State → List BusCycle → List Turn
turns k s [] = []
turns k s (x ∷ xs) = turn_by k s x ∷ turns k (step k s x) xs
