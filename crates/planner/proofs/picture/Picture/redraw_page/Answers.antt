-- `planner::picture::Picture::redraw_page` meets its contract: the address of column 0, then the page's bytes.
-- Assumes nothing.
use borrow.Author.Rules.{rules}
use Rattle.planner.proofs.Turns.{address_room, bytes_room, group_wrote}
use Rattle.planner.proofs.picture.Picture.redraw_page.Goals as goal

pub put_address-start-requires : goal.put_address-start-requires
put_address-start-requires c =
    (search rules, search rules, address_room _ _ _ c.requires.1)

pub put_wanted-requires : goal.put_wanted-requires
put_wanted-requires c =
    (search rules, search rules, bytes_room _ _ _ c.requires.1 c.put_address-start.ensures)

pub returns : goal.returns
returns c =
    group_wrote _ _ _ c.requires.1 c.put_address-start.ensures c.put_wanted.ensures
