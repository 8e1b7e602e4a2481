-- `planner::picture::Picture::shown_at` meets its contract: the place is inside the picture, and what the byte there is on its page is shown.
-- Assumes nothing.
use mathlib.Core.Path.{sym, ◌∙◌}
use native.Mathlib.Omega.{arith}
use Rattle.controller.proofs.Cells.{place}
use Rattle.streams.proofs.Pictures.{shown_is}
use Rattle.planner.proofs.picture.Picture.shown_at.Goals as goal

pub overflow_mul-self : goal.overflow_mul-self
overflow_mul-self c =
    let a = c.args in omega (arith, place a.self.width a.page a.column c.requires.0 c.requires.1)

pub overflow_add-self : goal.overflow_add-self
overflow_add-self c =
    let a = c.args in omega (arith, place a.self.width a.page a.column c.requires.0 c.requires.1)

pub bounds-self-self : goal.bounds-self-self
bounds-self-self c =
    let a = c.args in omega (arith, place a.self.width a.page a.column c.requires.0 c.requires.1)

pub returns : goal.returns
returns c =
    let a = c.args in c.cell.ensures ∙ sym (shown_is a.self.width a.self.bytes.now a.page a.column)
