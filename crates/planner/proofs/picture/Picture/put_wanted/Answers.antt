-- `planner::picture::Picture::put_wanted` meets its contract: before each column, the wanted bytes from there on, put now, give all of them.
-- Assumes nothing.
use Rattle.planner.proofs.Turns.{wanted_next, wanted_end}
use Rattle.planner.proofs.Writing.{going_room, going_step, going_end}
use Rattle.planner.proofs.picture.Picture.put_wanted.Goals as goal

pub put-next-requires : goal.put-next-requires
put-next-requires c =
    let a = c.args in
    rw c.shown_at-byte.ensures
    (going_room _ _ (wanted_next a.self.width a.self.bytes.now a.page c.loop-column.column a.to c.loop-column-test.true) c.loop-column.invariant)

pub loop-column-preserved : goal.loop-column-preserved
loop-column-preserved c =
    let a = c.args in
    going_step _ _ (wanted_next a.self.width a.self.bytes.now a.page c.loop-column.column a.to c.loop-column-test.true) c.loop-column.invariant
    (rw c.shown_at-byte.ensures at c.put-next.ensures)

pub returns : goal.returns
returns c =
    let a = c.args in
    going_end (wanted_end a.self.width a.self.bytes.now a.page c.loop-column.column a.to c.loop-column-test.false) c.loop-column.invariant
