-- A job lies within the room for it.
use Rattle.std.proofs.Common.{rules}
use Rattle.record.proofs.record.Goals as goal

pub slice_bounds-job-end : goal.slice_bounds-job-end
slice_bounds-job-end c =
    let h = (c.make_job.ensures.leaves _ c.in-Ok.is).0 in
    search (rules, h)
