-- Internal: what the functions that read a text say of themselves. No public promise cites it.
-- Assumes nothing.
use Rattle.std.specs.Prelude.{ℕ, ◌*◌, ◌≤◌, ◌≡◌, cond, not, ◌||◌, List, length, ltb, eqb, Option as Maybe, Some, None}
use Rattle.std.proofs.Math.Option.{Option, none, some}
use Rattle.std.proofs.lemmas.List.Edits.{sets}
use Rattle.paper.specs.Kind.{kind_number}
use Rattle.paper.specs.declared.kind.Kind.{Kind}
use Rattle.controller.specs.Run.{BusCycle}
use Rattle.recorder.specs.Cycles.{bytes_of}
use Rattle.recorder.specs.Line.{cycle_text, cycle_in, line_in}
use Rattle.recorder.specs.Text.{cycles_text, cycles_in}
use Rattle.recorder.specs.declared.line.Line.{Line}

-- a kind as its number, 6 for none
abbrev pub told_kind : Maybe Kind → ℕ
told_kind (Some k) = kind_number k
told_kind None = 6

-- a line: the cycle that it says and how many bytes it takes; and none
abbrev pub said : ℕ → ℕ → ℕ → Option (BusCycle × ℕ)
said kind value long = some ((kind, value), long)

abbrev pub no_line : Option (BusCycle × ℕ)
no_line = none

abbrev pub told_line : Maybe Line → Option (BusCycle × ℕ)
told_line (Some l) = said (kind_number l.kind) l.value l.long
told_line None = no_line

-- the line in front of t
unfoldable pub line_for : List ℕ → Option (BusCycle × ℕ)
line_for t = cond (line_in t) (said (cycle_in t).0 (cycle_in t).1 (length (cycle_text (cycle_in t)))) no_line

-- by the bytes behind its letter: without a value, and with one
unfoldable pub short_line : ℕ → ℕ → Option (BusCycle × ℕ)
short_line kind end = cond (not (eqb end 10)) no_line (said kind 0 2)

unfoldable pub long_line : ℕ → ℕ → ℕ → ℕ → Option (BusCycle × ℕ)
long_line kind space value end = cond (ltb 255 value) no_line (cond (not (eqb space 32) || not (eqb end 10)) no_line (said kind value 5))

-- the scan of a text: how many lines stand in front of it, how many bytes they take, and their cycles, as far as the output reaches
pub record Fronted (text before after : List ℕ) (lines at : ℕ) : Type 0 where
  pub count : lines ≡ length (cycles_in text)
  pub place : at ≡ length (cycles_text (cycles_in text))
  pub bytes : after ≡ sets before 0 (bytes_of (cycles_in text))
  pub few : 2 * lines ≤ length text
