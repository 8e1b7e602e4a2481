-- `planner::picture::Picture::put_lead` meets its contract: written through, a new stretch, or a new page.
-- Assumes nothing.
use native.Mathlib.Omega.{arith}
use borrow.Author.Rules.{rules}
use Rattle.streams.proofs.Walking.{lead_near, lead_far, lead_new}
use Rattle.planner.proofs.picture.Picture.put_lead.Goals as goal

pub returns-then-column-next : goal.returns-then-column-next
returns-then-column-next c =
    let a = c.args in
    let e = lead_near a.self.width a.self.bytes.now a.page a.pen.sent a.pen.next a.column c.if-pen.true (omega (arith, c.if-column-next.true)) in
    rw e c.put_wanted.ensures

pub returns-then-pen : goal.returns-then-pen
returns-then-pen c =
    let a = c.args in
    let e = lead_far a.self.width a.self.bytes.now a.page a.pen.sent a.pen.next a.column c.if-pen.true (omega (arith, c.if-column-next.false)) in
    rw e c.put_column.ensures

pub returns : goal.returns
returns c =
    let a = c.args in
    let e = lead_new a.self.width a.self.bytes.now a.page a.pen.sent a.pen.next a.column c.if-pen.false in
    rw e c.put_address.ensures

pub put_wanted-requires : goal.put_wanted-requires
put_wanted-requires c =
    let a = c.args in
    let e = lead_near a.self.width a.self.bytes.now a.page a.pen.sent a.pen.next a.column c.if-pen.true (omega (arith, c.if-column-next.true)) in
    (search rules, omega arith, rw e at c.requires.3)

pub put_column-requires : goal.put_column-requires
put_column-requires c =
    let a = c.args in
    let e = lead_far a.self.width a.self.bytes.now a.page a.pen.sent a.pen.next a.column c.if-pen.true (omega (arith, c.if-column-next.false)) in
    (omega arith, rw e at c.requires.3)

pub put_address-requires : goal.put_address-requires
put_address-requires c =
    let a = c.args in
    let e = lead_new a.self.width a.self.bytes.now a.page a.pen.sent a.pen.next a.column c.if-pen.false in
    (search rules, omega arith, rw e at c.requires.3)
