-- What a call that sends a stream answers, and what it leaves in the two outputs.
-- Assumes nothing.
use Rattle.std.specs.Prelude.{ℕ, ◌≡◌, Bool, cond, ◌||◌, List, map, length, ltb, eqb, Result}
use Rattle.paper.specs.Refusal.{wrong_size, short_output, outside_field}
use Rattle.paper.specs.Told.{given, refused, told}
use Rattle.paper.specs.declared.refusal.Refusal.{Refusal}
use Rattle.paper.specs.Over.{over}
use Rattle.controller.specs.Run.{BusCycle}
use Rattle.streams.specs.Update.{update_stream}
use Rattle.streams.specs.Redraw.{redraw_stream}
use Rattle.planner.specs.Pictures.{misfit}

abbrev pub kind_of : BusCycle → ℕ
kind_of x = x.0

abbrev pub byte_of : BusCycle → ℕ
byte_of x = x.1

-- either output is shorter than the stream needs
unfoldable pub too_short : List BusCycle → List ℕ → List ℕ → Bool
too_short s out kinds = ltb (length out) (length s) || ltb (length kinds) (length s)

-- a call refused with `number`, 0 for none, that is to send s: the stream's length is answered, and its bytes and kinds are in the
-- outputs; a refusal leaves both
pub record Sent (number : ℕ) (s : List BusCycle) (out kinds : List ℕ) (a : Result ℕ Refusal) (out' kinds' : List ℕ) : Type 0 where
  pub tells : told a ≡ cond (eqb number 0) (given (length s)) (refused number)
  pub bytes : out' ≡ cond (eqb number 0) (over (map byte_of s) out) out
  pub kinds_left : kinds' ≡ cond (eqb number 0) (over (map kind_of s) kinds) kinds

-- an update is refused with 1, then 5
unfoldable pub update_refusal : ℕ → List ℕ → List ℕ → List ℕ → List ℕ → ℕ
update_refusal W recorded wanted out kinds =
    cond (misfit W recorded || misfit W wanted) wrong_size (cond (too_short (update_stream W recorded wanted) out kinds) short_output 0)

-- a redraw is refused with 1, 6, then 5
unfoldable pub redraw_refusal : ℕ → List ℕ → ℕ → List ℕ → List ℕ → ℕ
redraw_refusal W wanted contrast out kinds =
    cond (misfit W wanted) wrong_size
    (cond (ltb 63 contrast) outside_field
    (cond (too_short (redraw_stream W wanted contrast) out kinds) short_output 0))

-- what update and redraw promise
abbrev pub IsUpdate : ℕ → List ℕ → List ℕ → List ℕ → List ℕ → Result ℕ Refusal → List ℕ → List ℕ → Type 0
IsUpdate W recorded wanted out kinds a out' kinds' =
    Sent (update_refusal W recorded wanted out kinds) (update_stream W recorded wanted) out kinds a out' kinds'

abbrev pub IsRedraw : ℕ → List ℕ → ℕ → List ℕ → List ℕ → Result ℕ Refusal → List ℕ → List ℕ → Type 0
IsRedraw W wanted contrast out kinds a out' kinds' =
    Sent (redraw_refusal W wanted contrast out kinds) (redraw_stream W wanted contrast) out kinds a out' kinds'
