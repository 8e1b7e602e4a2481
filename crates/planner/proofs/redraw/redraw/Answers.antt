-- `planner::redraw::redraw` meets its contract: refused with 1, 6 or 5, else given.
-- Assumes nothing.
use mathlib.Core.Option.{none}
use Rattle.std.proofs.lemmas.Result.{err_from_is_err_and}
use Rattle.streams.specs.Stretch.{emit}
use Rattle.streams.specs.Redraw.{opening, whole_pages}
use Rattle.planner.proofs.Sending.{redraw_misfit, redraw_outside, redraw_short, redraw_room, redraw_given}
use Rattle.planner.proofs.Writing.{room_first, room_second, wrote_both}
use Rattle.planner.proofs.redraw.redraw.Goals as goal

pub returns-in_err-picture : goal.returns-in_err-picture
returns-in_err-picture g c =
    let p = err_from_is_err_and c.from_residual.result c.from_residual.ensures.1 in
    let e = c.in_err-picture.ensures in
    rw (p.1, p.2, e.1) (redraw_misfit _ _ _ _ _ e.0)

pub returns-then-contrast-gt63 : goal.returns-then-contrast-gt63
returns-then-contrast-gt63 g c =
    redraw_outside _ _ _ _ _ c.in_ok-picture.ensures.fit c.if-contrast-gt63.true

pub returns-then-out-need : goal.returns-then-out-need
returns-then-out-need g c =
    let o = c.in_ok-picture.ensures in
    redraw_short _ _ _ _ _ c.in_ok-picture.ensures.fit c.if-contrast-gt63.false (rw o.width at c.if-out-need.true)

pub put_opening-start-requires : goal.put_opening-start-requires
put_opening-start-requires g c =
    let a = c.args in
    let o = c.in_ok-picture.ensures in
    room_first (opening a.contrast) (emit none (whole_pages g.C.Chip.sheet.width a.wanted.now 0 9)) (redraw_room _ _ _ _ _ (rw o.width at c.if-out-need.false))

pub redraw_pages-requires : goal.redraw_pages-requires
redraw_pages-requires g c =
    let a = c.args in
    let o = c.in_ok-picture.ensures in
    let room = redraw_room g.C.Chip.sheet.width a.wanted.now a.contrast a.out.now a.kinds.now (rw o.width at c.if-out-need.false) in
    rw (o.width, o.bytes) (room_second (opening a.contrast) (emit none (whole_pages g.C.Chip.sheet.width a.wanted.now 0 9)) room c.put_opening-start.ensures)

pub returns : goal.returns
returns g c =
    let a = c.args in
    let o = c.in_ok-picture.ensures in
    let pages = emit none (whole_pages g.C.Chip.sheet.width a.wanted.now 0 9) in
    let room = redraw_room g.C.Chip.sheet.width a.wanted.now a.contrast a.out.now a.kinds.now (rw o.width at c.if-out-need.false) in
    redraw_given _ _ _ _ _ o.fit c.if-contrast-gt63.false (rw o.width at c.if-out-need.false)
    (wrote_both (opening a.contrast) pages room c.put_opening-start.ensures (rw (o.width, o.bytes) at c.redraw_pages.ensures))
