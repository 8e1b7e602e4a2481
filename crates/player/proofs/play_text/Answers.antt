-- The room is for any text, so the answer is the text and never a refusal.
use Rattle.std.proofs.Common.{refl}
use Rattle.jobs.proofs.Fitting.{given, whole}
use Rattle.player.proofs.play_text.Goals as goal

pub unwrap-requires : goal.unwrap-requires
unwrap-requires c = let e = given c.play.ensures c.requires in rw e refl

pub returns : goal.returns
returns c = whole c.play.ensures c.requires c.unwrap.ensures
