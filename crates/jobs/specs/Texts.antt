-- Internal: what the methods that put text promise each other. No public promise cites it.
-- Assumes nothing.
use Rattle.std.specs.Prelude.{ℕ, ◌≡◌, List}
use Rattle.paper.specs.Sheet.{sheet0713}
use Rattle.controller.specs.State.{State, step}
use Rattle.controller.specs.Turn.{read_flag, byte_read, fresh_flag}
use Rattle.jobs.specs.Header.{cycle_at}
use Rattle.jobs.specs.Play.{line_of, answer_at}
use Rattle.jobs.specs.Output.{Put, line_by, line_most}
use Rattle.jobs.specs.declared.text.Text.{Text}

-- `text` is put into the output that `before` holds, which `after` still holds
pub record Puts (before : Text) (text : List ℕ) (after : Text) (most : ℕ) : Type 0 where
  pub same : after.out.ghost_name ≡ before.out.ghost_name
  pub put : Put before.out.now before.at text after.out.now after.at most

-- a turn: cycle i of a file from the state s
pub record Turned (file : List ℕ) (i : ℕ) (s : State) (before : Text) (s' : State) (after : Text) : Type 0 where
  pub after_it : s' ≡ step sheet0713 s (cycle_at file i)
  pub line : Puts before (line_of i (answer_at file i s)) after line_most

-- the line of cycle i by its kind, and by its answer taken apart
abbrev pub line_by_kind : List ℕ → ℕ → State → List ℕ
line_by_kind file i s =
    let o = answer_at file i s in
    line_by i (cycle_at file i).0 o.number (read_flag o.byte) (byte_read o.byte) (fresh_flag o.fresh)
