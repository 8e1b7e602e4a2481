-- `glass::frame::Glass::fill` meets its contract: strip by strip, until all nine are drawn.
-- Assumes nothing.
use Prim.Native.Nat.{◌*◌}
use Rattle.glass.specs.Filling.{DrawnTo}
use Rattle.glass.proofs.frame.Glass.fill.Given as goal

abbrev pub invariant-loop-strip : goal.invariant-loop-strip
invariant-loop-strip g l =
    DrawnTo g.C.Chip.sheet l.self.registers l.self.memory.now (g.C.Chip.sheet.width * l.strip) l.out
