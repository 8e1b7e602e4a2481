-- A run from power-up over the part of the file that holds the cycles.
use Rattle.std.proofs.Common.{arith, ap, ◌∙◌}
use Rattle.paper.specs.Sheet.{sheet0713}
use Rattle.controller.specs.State.{powered_up_in, run}
use Rattle.recorder.proofs.JobFile.{same_cycles}
use Rattle.viewer.proofs.good.Good.after.Goals as goal

pub returns : goal.returns
returns c =
    let q = rw c.cycles.ensures at c.from_power_up.ensures in
    let good = c.args.self.now in
    record {
      after = q.after ∙ ap (run sheet0713 (powered_up_in sheet0713 _ _)) (same_cycles good.file.now 0 good.job.cycles (omega (arith, good.whole.whole)));
      inside = q.inside;
    }
