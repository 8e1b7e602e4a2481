-- The room is for any text, so the answer is the text and never a refusal.
use Rattle.std.proofs.Common.{refl}
use Rattle.jobs.proofs.Fitting.{given}
use Rattle.examples.proofs.tell.Goals as goal

pub unwrap-n-requires : goal.unwrap-n-requires
unwrap-n-requires g c = let e = given c.play.ensures c.requires in rw e refl
