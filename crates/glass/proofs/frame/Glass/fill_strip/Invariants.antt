-- `glass::frame::Glass::fill_strip` meets its contract: one byte more of the frame under each segment.
-- Assumes nothing.
use Prim.Native.Nat.{◌+◌, ◌*◌}
use Rattle.glass.specs.Filling.{DrawnTo}
use Rattle.glass.proofs.frame.Glass.fill_strip.Given as goal

abbrev pub invariant-loop-under : goal.invariant-loop-under
invariant-loop-under g l =
    DrawnTo g.C.Chip.sheet l.self.registers l.self.memory.now (g.C.Chip.sheet.width * l.strip + l.under) l.out
