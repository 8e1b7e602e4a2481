-- The cycles are those of a good job and the room is for any text, so it is never refused.
use Rattle.std.proofs.Common.{refl}
use Rattle.viewer.proofs.Writing.{text_given, text_whole}
use Rattle.viewer.proofs.good.Good.put_text.Goals as goal

pub unwrap-requires : goal.unwrap-requires
unwrap-requires c =
    let g = text_given _ _ _ c.args.self.now.read (rw c.cycles.ensures at c.write_text.ensures) c.requires in
    rw g refl

pub returns : goal.returns
returns c = text_whole _ _ _ c.args.self.now.read (rw c.cycles.ensures at c.write_text.ensures) c.requires c.unwrap.ensures
