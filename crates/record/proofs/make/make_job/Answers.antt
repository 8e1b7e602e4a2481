-- By what reading the text answers: its first bad line, too many cycles, or their job, which is never refused.
use Rattle.std.proofs.Common.{rules, refl}
use Rattle.std.proofs.lemmas.Result.{err_from_is_err_and}
use Rattle.record.proofs.Making.{made_unread, cycles_fit, cycles_right, made_job, job_never}
use Rattle.record.proofs.make.make_job.Goals as goal

pub returns-in_err-n : goal.returns-in_err-n
returns-in_err-n c =
    let p = err_from_is_err_and c.from_residual.result c.from_residual.ensures.1 in
    rw (p.1, p.2) (made_unread _ _ _ _ _ _ _ _ c.requires.1 (rw c.in_err-n.was at c.read_text.ensures))

pub overflow_mul-n : goal.overflow_mul-n
overflow_mul-n c =
    let h = cycles_fit (rw c.in_ok-n.was at c.read_text.ensures) in
    search (rules, h)

pub slice_bounds-write_job-end : goal.slice_bounds-write_job-end
slice_bounds-write_job-end c =
    let h = cycles_fit (rw c.in_ok-n.was at c.read_text.ensures) in
    search (rules, h)

pub slice_bounds-write_job-end-2 : goal.slice_bounds-write_job-end-2
slice_bounds-write_job-end-2 c =
    let h = cycles_fit (rw c.in_ok-n.was at c.read_text.ensures) in
    search (rules, h)

pub returns-in_err-write_job : goal.returns-in_err-write_job
returns-in_err-write_job c =
    absurd (job_never _ _ _ _ _ c.write_job.ensures (cycles_right (rw c.in_ok-n.was at c.read_text.ensures) _ refl) c.requires.0 c.in_err-write_job.was)

pub returns : goal.returns
returns c =
    made_job (rw c.in_ok-n.was at c.read_text.ensures) _ _ _ _ refl (rw c.in_ok-write_job.was at c.write_job.ensures)
