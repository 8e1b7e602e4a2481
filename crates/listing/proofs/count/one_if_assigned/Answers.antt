-- The class is 0 exactly if the byte is unassigned.
use Rattle.std.proofs.Common.{arith}
use Rattle.listing.proofs.Counted.{none_counted, one_counted}
use Rattle.listing.proofs.count.one_if_assigned.Goals as goal

pub returns-then-class_of-eq0 : goal.returns-then-class_of-eq0
returns-then-class_of-eq0 c = (none_counted c.class_of.ensures c.if-class_of-eq0.true, omega arith)

pub returns : goal.returns
returns c = (one_counted c.class_of.ensures c.if-class_of-eq0.false, omega arith)
