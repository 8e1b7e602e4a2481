-- `planner::length::update_length` meets its contract: the test is the definition's, and the pages are counted where both pictures fit.
-- Assumes nothing.
use mathlib.Core.Path.{ap}
use Rattle.std.proofs.lemmas.Result.{err_from_is_err_and}
use Rattle.paper.specs.Told.{given}
use Rattle.planner.proofs.length.update_length.Goals as goal

pub returns-in_err-pair : goal.returns-in_err-pair
returns-in_err-pair g c =
    let p = err_from_is_err_and c.from_residual.result c.from_residual.ensures.1 in
    let e = c.in_err-pair.ensures in
    rw (p.1, p.2, e.1) (record { tells = rw e.0 })

pub returns : goal.returns
returns g c =
    let o = c.in_ok-pair.ensures in
    record { tells = rw o.fit (ap given (rw (o.width, o.recorded_is, o.wanted_is) at c.pages_length.ensures)) }
