-- `planner::picture::Pair::update_page` meets its contract: before each column, what the walk from there still sends, put now, gives the
-- page's group; equal columns send nothing.
-- Assumes nothing.
use Prim.Native.Nat.{◌-◌}
use mathlib.Core.Path.{◌≡◌}
use native.Mathlib.Omega.{arith}
use borrow.Author.Rules.{rules}
use Rattle.planner.specs.Pair.{apart}
use Rattle.streams.proofs.Walking.{walk_end}
use Rattle.planner.proofs.Showing.{told}
use Rattle.planner.proofs.Turns.{walk_next, walk_passed, next_inside}
use Rattle.planner.proofs.Writing.{going_start, going_room, going_step, going_end}
use Rattle.planner.proofs.picture.Pair.update_page.Goals as goal

pub loop-column-init : goal.loop-column-init
loop-column-init c =
    let z : c.args.self.wanted.width - 0 ≡ c.args.self.wanted.width = omega arith in
    (omega arith, rw z (going_start c.requires.1))

pub update_column-pen-requires : goal.update_column-pen-requires
update_column-pen-requires c =
    let a = c.args in
    let p = c.loop-column.pen in
    let n = walk_next a.self.wanted.width a.self.recorded.now a.self.wanted.bytes.now a.page p.sent p.next c.loop-column.column c.loop-column-test.true in
    (search rules, search rules, c.loop-column.invariant.0, going_room _ _ n c.loop-column.invariant.1)

pub loop-column-preserved-then-differ : goal.loop-column-preserved-then-differ
loop-column-preserved-then-differ c =
    let a = c.args in
    let p = c.loop-column.pen in
    let n = walk_next a.self.wanted.width a.self.recorded.now a.self.wanted.bytes.now a.page p.sent p.next c.loop-column.column c.loop-column-test.true in
    let d = apart a.self a.page c.loop-column.column in
    let w = c.update_column-pen.ensures in (
      rw w.2 (next_inside d a.self.wanted.width p.next c.loop-column.column c.loop-column-test.true c.loop-column.invariant.0),
      rw (w.1, w.2) (going_step _ _ n c.loop-column.invariant.1 w.0),
    )

pub loop-column-smaller : goal.loop-column-smaller
loop-column-smaller c =
    let past = c.past_equal-column.ensures in
    omega (arith, c.loop-column-test.true, past.0, past.1)

pub loop-column-preserved : goal.loop-column-preserved
loop-column-preserved c =
    let a = c.args in
    let p = c.loop-column.pen in
    let no = told c.differ.ensures c.if-differ.false in
    let d = apart a.self a.page in
    let n = walk_passed a.self.wanted.width a.self.wanted.bytes.now a.page d p.sent p.next c.loop-column.column _ c.loop-column-test.true no c.past_equal-column.ensures in
    (c.loop-column.invariant.0, rw n at c.loop-column.invariant.1)

pub returns : goal.returns
returns c =
    let a = c.args in
    let p = c.loop-column.pen in
    let d = apart a.self a.page in
    going_end (walk_end a.self.wanted.width a.self.wanted.bytes.now a.page d p.sent p.next c.loop-column.column c.loop-column-test.false) c.loop-column.invariant.1
