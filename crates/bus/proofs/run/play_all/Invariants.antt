-- `bus::run::play_all` meets its contract: before each cycle, the pairs still to come are the bytes from its place on, and what is left,
-- played and put now, gives the whole.
-- Assumes nothing.
use Prim.Native.Nat.{◌*◌}
use mathlib.Core.Path.{◌≡◌}
use lib.ListN.{drop}
use Rattle.std.specs.Iterator.Adapters.{enumerate_source, enumerate_count}
use Rattle.std.specs.Slice.Iter.{chunks_exact_rest, chunks_exact_size}
use Rattle.controller.specs.State.{state}
use Rattle.bus.specs.Run.{outputs}
use Rattle.bus.proofs.Playing.{Left}
use Rattle.bus.proofs.run.play_all.Given as goal

abbrev pub invariant-loop-i : goal.invariant-loop-i
invariant-loop-i g l =
    record {
      pairs : chunks_exact_size (enumerate_source l.i-iterator) ≡ 2;
      rest : chunks_exact_rest (enumerate_source l.i-iterator) ≡ drop (2 * enumerate_count l.i-iterator) l.cycles;
      left : Left g.C.Chip.sheet (state l.after l.memory) (outputs l.numbers l.reads l.bytes l.fresh) (enumerate_count l.i-iterator) l.cycles (state l.initial.after l.initial.memory)
          (outputs l.initial.numbers l.initial.reads l.initial.bytes l.initial.fresh);
    }
