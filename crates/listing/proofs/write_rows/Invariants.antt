-- Before each turn, a row begins at the next byte.
use Rattle.std.proofs.Common.{◌-◌, ◌<◌, ◌≤◌}
use Rattle.listing.specs.Row.{Begins}
use Rattle.listing.proofs.write_rows.Given as goal

abbrev pub invariant-loop-next : goal.invariant-loop-next
invariant-loop-next g l = (l.next ≤ 256) × (l.next < 256 → Begins l.next)

abbrev pub decreases-loop-next : goal.decreases-loop-next
decreases-loop-next g l = 256 - l.next
