-- The registers are in their ranges, so the frame is drawn.
use Rattle.std.proofs.Common.{sym, refl}
use Rattle.viewer.proofs.Showing.{frame_given}
use Rattle.viewer.proofs.draw.lit_frame.Goals as goal

pub unwrap-requires : goal.unwrap-requires
unwrap-requires c = let e = (frame_given c.requires c.told-memory (sym c.room-out.ensures.long) c.frame.ensures).0 in rw e refl

pub returns : goal.returns
returns c = (frame_given c.requires c.told-memory (sym c.room-out.ensures.long) c.frame.ensures).1
