-- `planner::picture::Pair::pages_length` meets its contract: before each page, the bytes so far and those of the pages left make the length.
-- Assumes nothing.
use Prim.Native.Nat.{◌+◌, ◌-◌}
use mathlib.Core.Path.{◌≡◌}
use Rattle.streams.specs.Length.{length_from, update_length}
use Rattle.planner.proofs.picture.Pair.pages_length.Given as goal

abbrev pub invariant-loop-page : goal.invariant-loop-page
invariant-loop-page l =
    l.bytes + length_from l.self.wanted.width l.self.recorded.now l.self.wanted.bytes.now l.page (9 - l.page) ≡ update_length l.self.wanted.width l.self.recorded.now l.self.wanted.bytes.now
