-- `recorder::text::put_lines` meets its contract: before each cycle, the text from it on is what remains to be put.
-- Assumes nothing.
use Prim.Native.Nat.{◌+◌, ◌*◌, ◌/◌, ◌≤◌}
use mathlib.Core.Path.{◌≡◌}
use lib.ListN.{length}
use Rattle.std.specs.Slice.Iter.{chunks_exact_rest, chunks_exact_size}
use Rattle.bus.specs.Cycles.{cycles_of}
use Rattle.jobs.specs.Output.{Remains}
use Rattle.recorder.specs.Text.{cycles_text}
use Rattle.recorder.proofs.text.put_lines.Given as goal

abbrev pub invariant-loop-cycle : goal.invariant-loop-cycle
invariant-loop-cycle l =
    (chunks_exact_size l.cycle-iterator ≡ 2)
    × (l.at + 5 * (length (chunks_exact_rest l.cycle-iterator) / 2) ≤ 5 * (length l.cycles / 2))
    × Remains (cycles_text (cycles_of l.cycles)) l.initial.out l.out l.at (cycles_text (cycles_of (chunks_exact_rest l.cycle-iterator)))
