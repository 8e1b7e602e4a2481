-- `planner::picture::Pair::update_column` meets its contract: a differing column sends its piece, an equal one nothing.
-- Assumes nothing.
use borrow.Author.Rules.{rules}
use Rattle.planner.proofs.Showing.{told}
use Rattle.planner.proofs.Turns.{lead_room, byte_room, piece_wrote, none_wrote}
use Rattle.planner.proofs.picture.Pair.update_column.Goals as goal

pub put_lead-led-requires : goal.put_lead-led-requires
put_lead-led-requires c =
    let yes = told c.differ.ensures c.if-differ.true in
    (search rules, search rules, search rules, lead_room _ _ _ _ _ _ _ yes c.requires.3)

pub put-at-requires : goal.put-at-requires
put-at-requires c =
    let yes = told c.differ.ensures c.if-differ.true in
    byte_room _ _ _ _ _ _ _ yes c.requires.3 c.put_lead-led.ensures _ c.shown_at-byte.ensures

pub returns-then-differ : goal.returns-then-differ
returns-then-differ c =
    let yes = told c.differ.ensures c.if-differ.true in
    (piece_wrote _ _ _ _ _ _ _ yes c.requires.3 c.put_lead-led.ensures _ c.shown_at-byte.ensures c.put-at.ensures, rw yes, rw yes)

pub returns : goal.returns
returns c =
    let no = told c.differ.ensures c.if-differ.false in
    (none_wrote _ _ _ _ _ _ _ no _ _ _, rw no, rw no)
