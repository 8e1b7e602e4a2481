-- One page of the update by itself.
-- Assumes nothing.
use Rattle.std.specs.Prelude.{ℕ, cond, ◌||◌, List, ltb, Result}
use Rattle.paper.specs.Refusal.{wrong_size, short_output, outside_field}
use Rattle.paper.specs.declared.refusal.Refusal.{Refusal}
use Rattle.streams.specs.Shape.{group}
use Rattle.planner.specs.Pictures.{misfit}
use Rattle.planner.specs.Sent.{too_short, Sent}

-- a group is refused with 1, 6, then 5
unfoldable pub group_refusal : ℕ → List ℕ → List ℕ → ℕ → List ℕ → List ℕ → ℕ
group_refusal W recorded wanted p out kinds =
    cond (misfit W recorded || misfit W wanted) wrong_size
    (cond (ltb 8 p) outside_field
    (cond (too_short (group W recorded wanted p) out kinds) short_output 0))

-- what page_group promises
abbrev pub IsGroup : ℕ → List ℕ → List ℕ → ℕ → List ℕ → List ℕ → Result ℕ Refusal → List ℕ → List ℕ → Type 0
IsGroup W recorded wanted p out kinds a out' kinds' =
    Sent (group_refusal W recorded wanted p out kinds) (group W recorded wanted p) out kinds a out' kinds'
