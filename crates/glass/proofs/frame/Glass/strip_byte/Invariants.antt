-- `glass::frame::Glass::strip_byte` meets its contract. The invariant: the sum is that of the bits so far.
-- Assumes nothing.
use Prim.Native.Nat.{ℕ, ◌+◌, ◌*◌}
use mathlib.Core.Path.{◌≡◌}
use Rattle.glass.specs.Bit.{sum_of}
use Rattle.glass.specs.Dot.{lit_of}
use Rattle.glass.proofs.frame.Glass.strip_byte.Given as goal

abbrev pub invariant-loop-b : goal.invariant-loop-b
invariant-loop-b g l =
    l.sum ≡ sum_of (λ (k : ℕ). lit_of g.C.Chip.sheet l.self.registers l.self.memory.now (8 * l.strip + k) l.segment.0) l.b
