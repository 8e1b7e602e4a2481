-- `planner::group::page_group` meets its contract: refused with 1, 6 or 5, else given.
-- Assumes nothing.
use native.Mathlib.Omega.{arith}
use Rattle.std.proofs.lemmas.Result.{err_from_is_err_and}
use Rattle.planner.proofs.Showing.{told}
use Rattle.planner.proofs.Sending.{group_misfit, group_outside, group_short, group_room, group_given}
use Rattle.planner.proofs.group.page_group.Goals as goal

pub returns-in_err-pair : goal.returns-in_err-pair
returns-in_err-pair g c =
    let p = err_from_is_err_and c.from_residual.result c.from_residual.ensures.1 in
    let e = c.in_err-pair.ensures in
    rw (p.1, p.2, e.1) (group_misfit _ _ _ _ _ _ e.0)

pub returns-then-page-gt8 : goal.returns-then-page-gt8
returns-then-page-gt8 g c =
    group_outside _ _ _ _ _ _ c.in_ok-pair.ensures.fit c.if-page-gt8.true

pub returns-then-group_short : goal.returns-then-group_short
returns-then-group_short g c =
    let o = c.in_ok-pair.ensures in
    group_short _ _ _ _ _ _ o.fit c.if-page-gt8.false (rw (o.width, o.recorded_is, o.wanted_is) at (told c.group_short.ensures c.if-group_short.true))

pub update_differing-requires : goal.update_differing-requires
update_differing-requires g c =
    let o = c.in_ok-pair.ensures in (
      omega (arith, c.if-page-gt8.false),
      rw (o.width, o.recorded_is, o.wanted_is)
          (group_room _ _ _ _ _ _ o.fit c.if-page-gt8.false (rw (o.width, o.recorded_is, o.wanted_is) at (told c.group_short.ensures c.if-group_short.false))),
    )

pub returns : goal.returns
returns g c =
    let o = c.in_ok-pair.ensures in
    group_given _ _ _ _ _ _ o.fit c.if-page-gt8.false (rw (o.width, o.recorded_is, o.wanted_is) at (told c.group_short.ensures c.if-group_short.false))
    (rw (o.width, o.recorded_is, o.wanted_is) at c.update_differing.ensures)
