-- `planner::picture::Pair::count_column` meets its contract: an equal column makes the gap longer, a differing one is paid.
-- Assumes nothing.
use mathlib.Core.Path.{ap}
use Prim.Native.Nat.{ℕ, ◌+◌}
use native.Mathlib.Omega.{arith}
use borrow.Author.Rules.{rules}
use Rattle.streams.proofs.Counting.{count_same, count_more, count_most}
use Rattle.planner.proofs.Showing.{told}
use Rattle.planner.proofs.picture.Pair.count_column.Goals as goal

pub overflow_add-result : goal.overflow_add-result
overflow_add-result c =
    omega (arith, count_most _ _ _ _ _ c.requires.3)

pub overflow_add-result-then-differ : goal.overflow_add-result-then-differ
overflow_add-result-then-differ c =
    omega (arith, count_most _ _ _ _ _ c.requires.3)

pub returns-then-differ : goal.returns-then-differ
returns-then-differ c = (
  search rules,
  count_more _ _ _ _ _ c.requires.1 c.requires.3 _ _ (omega arith) (told c.differ.ensures c.if-differ.true)
      (ap (λ (k : ℕ). c.args.tally.bytes + 1 + k) c.gap_cost-between.ensures),
)

pub returns : goal.returns
returns c =
    (search rules, count_same _ _ _ _ _ c.requires.1 c.requires.3 _ (omega (arith, c.requires.2)) (told c.differ.ensures c.if-differ.false))
