-- The text form of a list of cycles, written and read, and what is refused.
-- Assumes nothing.
use Rattle.std.specs.Prelude.{ℕ, zero, suc, ◌*◌, ◌≡◌, Bool, cond, List, [], ◌∷◌, ◌++◌, length, drop, ltb, eqb, Result, Ok, Err}
use Rattle.std.proofs.Math.Option.{Option, none, some}
use Rattle.paper.specs.Refusal.{short_output, outside_field, no_text, number_of}
use Rattle.paper.specs.declared.refusal.Refusal.{Refusal}
use Rattle.paper.specs.Over.{over}
use Rattle.controller.specs.Run.{BusCycle}
use Rattle.bus.specs.Cycles.{cycles_of}
use Rattle.recorder.specs.Cycles.{any_wrong, bytes_of}
use Rattle.recorder.specs.Line.{cycle_text, cycle_in, line_in}
use Rattle.recorder.specs.Written.{Written}
use Rattle.recorder.specs.declared.text.Unread.{Unread}
use Rattle.recorder.specs.declared.text.Unread.TheVariants.{BadLine, Refused}

-- one cycle per line
unfoldable pub cycles_text : List BusCycle → List ℕ
cycles_text [] = []
cycles_text (x ∷ xs) = cycle_text x ++ cycles_text xs

-- ---- written

-- a text is refused with 6, then 5
unfoldable pub text_refusal : List BusCycle → List ℕ → ℕ
text_refusal xs out =
    cond (ltb 16000 (length xs)) outside_field
    (cond (any_wrong xs) outside_field
    (cond (ltb (length out) (length (cycles_text xs))) short_output 0))

-- what write_text promises
abbrev pub IsWrittenText : List ℕ → List ℕ → Result ℕ Refusal → List ℕ → Type 0
IsWrittenText cycles out a left = Written (text_refusal (cycles_of cycles) out) (cycles_text (cycles_of cycles)) out a left

-- ---- read

-- the cycles of the lines in front of t, up to the first that is no cycle's, n at most
unfoldable pub front_cycles : ℕ → List ℕ → List BusCycle
front_cycles zero t = []
front_cycles (suc n) t = cond (line_in t) (cycle_in t ∷ front_cycles n (drop (length (cycle_text (cycle_in t))) t)) []

-- all of them: a text has no more lines than bytes
abbrev pub cycles_in : List ℕ → List BusCycle
cycles_in t = front_cycles (length t) t

-- something stands behind them: no list of cycles has the text
abbrev pub bad_text : List ℕ → Bool
bad_text t = ltb (length (cycles_text (cycles_in t))) (length t)

-- a text is refused with 11, then 6, then 5
unfoldable pub read_refusal : List ℕ → List ℕ → ℕ
read_refusal t out =
    cond (bad_text t) no_text
    (cond (ltb 16000 (length (cycles_in t))) outside_field
    (cond (ltb (length out) (2 * length (cycles_in t))) short_output 0))

-- an answer as the order tells it: the number it is refused with, 0 for none; how many cycles, where it is not refused; the first bad
-- line's number, with 11
pub record ToldLines : Type 0 where
  pub number : ℕ
  pub cycles : Option ℕ
  pub line : Option ℕ

abbrev pub told_lines : Result ℕ Unread → ToldLines
told_lines (Ok n) = record { number = 0; cycles = some n; line = none }
told_lines (Err (BadLine n)) = record { number = no_text; cycles = none; line = some n }
told_lines (Err (Refused r)) = record { number = number_of r; cycles = none; line = none }

-- what is told of n lines and a number: they are all there are, or the line behind them is bad
abbrev pub told_by : ℕ → ℕ → ToldLines
told_by number n = record { number = number; cycles = cond (eqb number 0) (some n) none; line = cond (eqb number no_text) (some n) none }

-- what read_text promises
pub record IsReadText (text out : List ℕ) (a : Result ℕ Unread) (left : List ℕ) : Type 0 where
  pub tells : told_lines a ≡ told_by (read_refusal text out) (length (cycles_in text))
  pub leaves : left ≡ cond (eqb (read_refusal text out) 0) (over (bytes_of (cycles_in text)) out) out
