-- `recorder::put::put_all` meets its contract: before each byte, those from it on, put now, give the whole.
-- Assumes nothing.
use Prim.Native.Nat.{◌+◌}
use mathlib.Core.Path.{◌≡◌}
use lib.ListN.{drop}
use lib.Seq.{sets}
use Rattle.recorder.proofs.put.put_all.Given as goal

abbrev pub invariant-loop-i : goal.invariant-loop-i
invariant-loop-i l =
    sets l.initial.out l.at l.from ≡ sets l.out (l.at + l.i) (drop l.i l.from)
