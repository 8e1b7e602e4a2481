-- The text form of one cycle: its line, and the cycle whose line stands in front of a text.
-- Assumes nothing.
use Rattle.std.specs.Prelude.{ℕ, ◌+◌, ◌*◌, ◌-◌, Bool, true, false, cond, ◌&&◌, List, [], ◌∷◌, ◌++◌, get_or, ltb, leb, eqb}
use Rattle.controller.specs.Run.{BusCycle}
use Rattle.jobs.specs.Text.{hex, newline}
use Rattle.recorder.specs.Cycles.{good_cycle}

-- i, d, s, r, l or h for kinds 0 to 5
unfoldable pub letter_of : ℕ → ℕ
letter_of kind = cond (eqb kind 0) 105 (cond (eqb kind 1) 100 (cond (eqb kind 2) 115 (cond (eqb kind 3) 114 (cond (eqb kind 4) 108 104))))

-- the letter, then for i and d one space and two lower-case hex digits, then a newline
unfoldable pub cycle_text : BusCycle → List ℕ
cycle_text x = letter_of x.0 ∷ (cond (ltb x.0 2) (32 ∷ hex x.1) [] ++ newline)

-- ---- the other way: a cycle is guessed from the letter and the digits, and its line must stand there

-- the kind of a letter, 6 where it is none of the six
unfoldable pub kind_by : ℕ → ℕ
kind_by c = cond (eqb c 105) 0 (cond (eqb c 100) 1 (cond (eqb c 115) 2 (cond (eqb c 114) 3 (cond (eqb c 108) 4 (cond (eqb c 104) 5 6)))))

-- what a lower-case hex digit counts, 256 where it is none: no byte is that large
unfoldable pub digit_by : ℕ → ℕ
digit_by c = cond (ltb c 48) 256 (cond (leb c 57) (c - 48) (cond (ltb c 97) 256 (cond (leb c 102) (c - 87) 256)))

-- the one cycle whose line can stand in front of t; past its end a text reads 0, which no line has
unfoldable pub cycle_in : List ℕ → BusCycle
cycle_in t = (kind_by (get_or t 0 0), cond (ltb (kind_by (get_or t 0 0)) 2) (16 * digit_by (get_or t 2 0) + digit_by (get_or t 3 0)) 0)

-- t begins with the bytes l
unfoldable pub starts_with : List ℕ → List ℕ → Bool
starts_with [] t = true
starts_with (x ∷ l) [] = false
starts_with (x ∷ l) (y ∷ t) = eqb y x && starts_with l t

-- a cycle's line stands in front of t
unfoldable pub line_in : List ℕ → Bool
line_in t = good_cycle (cycle_in t) && starts_with (cycle_text (cycle_in t)) t
