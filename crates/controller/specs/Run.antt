-- Lists of bus cycles, played one after the other.
-- Assumes nothing.
use Rattle.std.specs.Prelude.{ℕ, List, [], ◌∷◌}

-- a bus cycle: its kind and its value
abbrev pub BusCycle : Type 0
BusCycle = ℕ × ℕ

-- the state after a list of cycles, with `step` for one
abbrev pub run_by : {S : Type 0} → (S → BusCycle → S) → S → List BusCycle → S
run_by step s [] = s
run_by step s (x ∷ xs) = run_by step (step s x) xs

-- the number that each cycle of a list is refused with, 0 for none, with `number` for one
abbrev pub numbers_by : {S : Type 0} → (S → BusCycle → S) → (S → BusCycle → ℕ) → S → List BusCycle → List ℕ
numbers_by step number s [] = []
numbers_by step number s (x ∷ xs) = number s x ∷ numbers_by step number (step s x) xs
