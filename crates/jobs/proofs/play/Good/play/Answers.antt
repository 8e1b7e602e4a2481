-- `jobs::play::Good::play` meets its contract: a cycle more is put, and then the ending of what the cycles left.
-- Assumes nothing.
use mathlib.Core.Path.{refl, ◌∙◌}
use native.Mathlib.Nat.{sub-zero}
use native.Mathlib.Omega.{arith}
use Rattle.jobs.proofs.Loading.{start_whole}
use Rattle.jobs.proofs.Playing.{remains_start, remains_turn, remains_ending, text_whole}
use Rattle.jobs.proofs.play.Good.play.Goals as goal

pub loop-i-init : goal.loop-i-init
loop-i-init c =
    let e = c.start_memory-memory.ensures.1 ∙ start_whole _ _ c.args.self.now.whole in
    (omega arith, refl, rw (e, c.power_up_in-registers.ensures.tells, sub-zero) (remains_start _ _ c.requires))

pub loop-i-preserved : goal.loop-i-preserved
loop-i-preserved c =
    let inv = c.loop-i.invariant in
    let turn = c.turn-registers.ensures.turned in
    (omega (arith, turn.line.put.near, inv.0), turn.line.same ∙ inv.1, remains_turn _ _ _ _ c.loop-i-test.true inv.2 turn)

pub returns : goal.returns
returns c =
    let inv = c.loop-i.invariant in
    text_whole c.requires inv.1 (remains_ending _ _ _ _ c.loop-i-test.false inv.2) c.finish.ensures
    (omega (arith, c.finish.ensures.put.near, inv.0, c.args.self.now.whole.few))
