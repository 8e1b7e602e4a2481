-- `planner::picture::Pair::pages_length` meets its contract: before each page, the bytes so far and those of the pages left make the length.
-- Assumes nothing.
use native.Mathlib.Omega.{arith}
use Rattle.streams.proofs.Counting.{update_length_from, length_from_next, length_from_end}
use Rattle.streams.proofs.Length.{update_most}
use Rattle.planner.proofs.picture.Pair.pages_length.Goals as goal

pub loop-page-init : goal.loop-page-init
loop-page-init c =
    let a = c.args in omega (arith, update_length_from a.self.wanted.width a.self.recorded.now a.self.wanted.bytes.now)

pub overflow_add-bytes : goal.overflow_add-bytes
overflow_add-bytes c =
    let a = c.args in
    omega (
      arith,
      length_from_next a.self.wanted.width a.self.recorded.now a.self.wanted.bytes.now c.loop-page.page c.loop-page-test.true,
      update_most a.self.wanted.width a.self.recorded.now a.self.wanted.bytes.now,
    )

pub loop-page-preserved : goal.loop-page-preserved
loop-page-preserved c =
    let a = c.args in
    omega (arith, length_from_next a.self.wanted.width a.self.recorded.now a.self.wanted.bytes.now c.loop-page.page c.loop-page-test.true)

pub returns : goal.returns
returns c =
    let a = c.args in
    omega (arith, length_from_end a.self.wanted.width a.self.recorded.now a.self.wanted.bytes.now c.loop-page.page c.loop-page-test.false)
