-- Behind the last character, all of them are the row's.
use Rattle.std.proofs.Common.{arith}
use Rattle.paper.proofs.Listed.{whole}
use Rattle.viewer.proofs.draw.Row.put.Goals as goal

pub returns : goal.returns
returns c = whole _ c.loop-i.line _ c.loop-i.auto.line (λ k h. c.loop-i.invariant k (omega arith))
