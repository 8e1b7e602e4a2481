-- The run is never refused.
use Rattle.std.proofs.Common.{refl}
use Rattle.viewer.proofs.Running.{run_given, run_always_given}
use Rattle.viewer.proofs.play.from_power_up.Goals as goal

pub unwrap-requires : goal.unwrap-requires
unwrap-requires c =
    let e = run_always_given c.power_up_in.ensures c.run.ensures c.told-memory c.requires c.room-numbers.ensures.long c.room-reads.ensures.long c.room-bytes.ensures.long c.room-fresh.ensures.long in
    rw e refl

pub returns : goal.returns
returns c = run_given c.power_up_in.ensures c.run.ensures c.unwrap.ensures
