-- Before each byte, n are counted below it.
use Rattle.std.proofs.Common.{◌≤◌, ◌≡◌}
use Rattle.instructions.specs.Read.{assigned}
use Rattle.instructions.proofs.Pinned.{how_many}
use Rattle.listing.proofs.count.assigned_bytes.Given as goal

abbrev pub invariant-loop-byte : goal.invariant-loop-byte
invariant-loop-byte l = (l.n ≤ l.byte) × (l.n ≡ how_many assigned l.byte)
