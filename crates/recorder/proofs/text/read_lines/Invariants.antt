-- `recorder::text::read_lines` meets its contract: before each line, the good lines from there on complete the count, the place and the output.
-- Assumes nothing.
use Prim.Native.Nat.{◌-◌}
use lib.ListN.{length}
use Rattle.recorder.proofs.Reading.{Reading}
use Rattle.recorder.proofs.text.read_lines.Given as goal

abbrev pub invariant-loop-line : goal.invariant-loop-line
invariant-loop-line l =
    Reading l.text l.initial.out l.out l.lines l.at

abbrev pub decreases-loop-line : goal.decreases-loop-line
decreases-loop-line l =
    length l.text - l.at
