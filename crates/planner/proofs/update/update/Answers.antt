-- `planner::update::update` meets its contract: refused with 1 or 5, else given.
-- Assumes nothing.
use Rattle.std.proofs.lemmas.Result.{err_from_is_err_and}
use Rattle.planner.proofs.Showing.{told}
use Rattle.planner.proofs.Sending.{update_misfit, update_short, update_room, update_given}
use Rattle.planner.proofs.update.update.Goals as goal

pub returns-in_err-pair : goal.returns-in_err-pair
returns-in_err-pair g c =
    let p = err_from_is_err_and c.from_residual.result c.from_residual.ensures.1 in
    let e = c.in_err-pair.ensures in
    rw (p.1, p.2, e.1) (update_misfit _ _ _ _ _ e.0)

pub returns-then-too_short : goal.returns-then-too_short
returns-then-too_short g c =
    let o = c.in_ok-pair.ensures in
    update_short _ _ _ _ _ o.fit (rw (o.width, o.recorded_is, o.wanted_is) at (told c.too_short.ensures c.if-too_short.true))

pub update_pages-requires : goal.update_pages-requires
update_pages-requires g c =
    let o = c.in_ok-pair.ensures in
    rw (o.width, o.recorded_is, o.wanted_is)
    (update_room _ _ _ _ _ o.fit (rw (o.width, o.recorded_is, o.wanted_is) at (told c.too_short.ensures c.if-too_short.false)))

pub returns : goal.returns
returns g c =
    let o = c.in_ok-pair.ensures in
    update_given _ _ _ _ _ o.fit (rw (o.width, o.recorded_is, o.wanted_is) at (told c.too_short.ensures c.if-too_short.false))
    (rw (o.width, o.recorded_is, o.wanted_is) at c.update_pages.ensures)
