-- Both pictures are 1,188 bytes and the room is for any update, so it is never refused.
use Rattle.std.proofs.Common.{refl}
use Rattle.planner.proofs.Promised.{update_always}
use Rattle.viewer.proofs.stream.sent.Goals as goal

pub unwrap-requires : goal.unwrap-requires
unwrap-requires c =
    let e = (update_always 132 _ _ _ _ _ _ _ c.update.ensures (c.told-memory, c.requires.0) c.requires.1 c.requires.2).answer in rw e refl
