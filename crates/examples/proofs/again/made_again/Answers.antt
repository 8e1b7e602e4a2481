-- The cycles that were read lie within the room for them.
use Rattle.std.proofs.Common.{arith}
use Rattle.std.proofs.lemmas.Grind.{common_steps}
use Rattle.examples.proofs.Fitting.{lines_fit}
use Rattle.examples.proofs.again.made_again.Goals as goal

pub overflow_mul-cycles : goal.overflow_mul-cycles
overflow_mul-cycles c = omega (arith, lines_fit c.read_text.ensures c.in_ok-count.was)

pub slice_bounds-cycles-end : goal.slice_bounds-cycles-end
slice_bounds-cycles-end c = omega (arith, lines_fit c.read_text.ensures c.in_ok-count.was)

pub slice_bounds-cycles-end-2 : goal.slice_bounds-cycles-end-2
slice_bounds-cycles-end-2 c = grind (arith, common_steps, lines_fit c.read_text.ensures c.in_ok-count.was)
