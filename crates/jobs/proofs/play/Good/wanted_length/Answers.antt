-- `jobs::play::Good::wanted_length` meets its contract: both pictures are 1,188 bytes, so the planner gives the length and never refuses.
-- Assumes nothing.
use mathlib.Core.Path.{refl}
use Rattle.jobs.proofs.Playing.{wanted_given}
use Rattle.jobs.proofs.play.Good.wanted_length.Goals as goal

pub unwrap-requires : goal.unwrap-requires
unwrap-requires c =
    let e = wanted_given _ _ c.args.self.now.whole c.requires.0 _ c.requires.1 (rw c.picture2.ensures at c.update_length.ensures) in rw e refl

pub returns : goal.returns
returns c =
    let e = wanted_given _ _ c.args.self.now.whole c.requires.0 _ c.requires.1 (rw c.picture2.ensures at c.update_length.ensures) in
    let f = c.unwrap.ensures in cc
