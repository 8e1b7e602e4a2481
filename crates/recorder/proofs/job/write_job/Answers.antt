-- `recorder::job::write_job` meets its contract: the definition's tests in its order, then header, cycles and pictures, copied one behind the other.
-- Assumes nothing.
use mathlib.Core.Path.{sym, ◌∙◌}
use native.Mathlib.Omega.{arith}
use Rattle.recorder.proofs.Answers.{job_size, job_many, job_pictures, job_wrong, job_short, job_given}
use Rattle.recorder.proofs.job.write_job.Goals as goal

pub returns-then-wrong_pictures : goal.returns-then-wrong_pictures
returns-then-wrong_pictures c =
    job_size _ _ _ _ _ (sym c.wrong_pictures.ensures ∙ c.if-wrong_pictures.true)

pub returns-then-n-gt16000 : goal.returns-then-n-gt16000
returns-then-n-gt16000 c =
    job_many _ _ _ _ _ (sym c.wrong_pictures.ensures ∙ c.if-wrong_pictures.false) c.if-n-gt16000.true

pub returns-then-most_pictures-count : goal.returns-then-most_pictures-count
returns-then-most_pictures-count c =
    job_pictures _ _ _ _ _ (sym c.wrong_pictures.ensures ∙ c.if-wrong_pictures.false) c.if-n-gt16000.false (rw c.most_pictures.ensures.0 at c.if-most_pictures-count.true)

pub returns-then-wrong_cycles : goal.returns-then-wrong_cycles
returns-then-wrong_cycles c =
    job_wrong _ _ _ _ _ (sym c.wrong_pictures.ensures ∙ c.if-wrong_pictures.false) c.if-n-gt16000.false (rw c.most_pictures.ensures.0 at c.if-most_pictures-count.false)
    (sym c.wrong_cycles.ensures ∙ c.if-wrong_cycles.true)

pub returns-then-out-total : goal.returns-then-out-total
returns-then-out-total c =
    job_short _ _ _ _ _ (sym c.wrong_pictures.ensures ∙ c.if-wrong_pictures.false) c.if-n-gt16000.false (rw c.most_pictures.ensures.0 at c.if-most_pictures-count.false)
    (sym c.wrong_cycles.ensures ∙ c.if-wrong_cycles.false) c.if-out-total.true

pub count_field-requires : goal.count_field-requires
count_field-requires c =
    omega (arith, c.if-most_pictures-count.false, c.most_pictures.ensures.1)

pub returns : goal.returns
returns c =
    job_given _ _ _ _ _ (sym c.wrong_pictures.ensures ∙ c.if-wrong_pictures.false) c.if-n-gt16000.false (rw c.most_pictures.ensures.0 at c.if-most_pictures-count.false)
    (sym c.wrong_cycles.ensures ∙ c.if-wrong_cycles.false) c.if-out-total.false
    (c.copy.ensures ∙ rw c.count_field.ensures.0 at c.header.ensures) c.copy-2.ensures c.copy-3.ensures
