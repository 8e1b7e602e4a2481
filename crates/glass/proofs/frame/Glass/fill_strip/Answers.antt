-- `glass::frame::Glass::fill_strip` meets its contract: one byte more of the frame under each segment.
-- Assumes nothing.
use Rattle.glass.proofs.Filling.{drawn_next}
use Rattle.glass.proofs.frame.Glass.fill_strip.Goals as goal

pub loop-under-preserved : goal.loop-under-preserved
loop-under-preserved g c =
    let l = c.loop-under in
    rw c.sheet-width.ensures (drawn_next _ _ _ _ l.under _ l.out c.requires.0 (rw c.sheet-width.ensures at c.loop-under-test.true) c.strip_byte.ensures l.invariant)
