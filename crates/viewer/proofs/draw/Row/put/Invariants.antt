-- Before each character, those so far are the row's.
use Rattle.std.proofs.Common.{ℕ, ◌+◌, ◌<◌, ◌≡◌}
use Rattle.std.specs.Prelude.{get_or}
use Rattle.viewer.specs.Drawn.{glyph}
use Rattle.viewer.proofs.draw.Row.put.Given as goal

abbrev pub invariant-loop-i : goal.invariant-loop-i
invariant-loop-i l = (k : ℕ) → k < l.i → get_or l.line k 0 ≡ glyph l.self.frame.now l.self.row (l.from + k) l.self.lit l.self.dark
