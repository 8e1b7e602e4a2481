-- The last byte is 255, and with it they are 161.
use native.Mathlib.Omega.{arith}
use Rattle.listing.proofs.Counted.{all, more}
use Rattle.listing.proofs.count.assigned_bytes.Goals as goal

pub returns-2 : goal.returns-2
returns-2 c =
    let l = c.loop-byte in
    all _ _ (more _ _ _ l.invariant.1 c.one_if_assigned-n.ensures.0) (omega arith)
