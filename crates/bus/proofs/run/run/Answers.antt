-- `bus::run::run` meets its contract: refused with its number, or played into outputs that have room.
-- Assumes nothing.
use native.Mathlib.Omega.{arith}
use Rattle.std.proofs.lemmas.Grind.{common_steps}
use Rattle.bus.specs.Run.{outputs}
use Rattle.bus.proofs.Running.{has_room, run_refused, run_given}
use Rattle.bus.proofs.run.run.Goals as goal

pub returns-in_err-check : goal.returns-in_err-check
returns-in_err-check g c =
    let a = c.args in
    grind (arith, common_steps, run_refused g.C.Chip.sheet a.registers a.memory.now a.cycles.now (outputs a.numbers.now a.reads.now a.bytes.now a.fresh.now))

pub play_all-requires : goal.play_all-requires
play_all-requires g c =
    let a = c.args in
    has_room g.C.Chip.sheet a.registers a.memory.now a.cycles.now (outputs a.numbers.now a.reads.now a.bytes.now a.fresh.now) c.in_ok-check.ensures

pub returns : goal.returns
returns g c =
    let a = c.args in
    run_given g.C.Chip.sheet a.registers a.memory.now a.cycles.now (outputs a.numbers.now a.reads.now a.bytes.now a.fresh.now) c.in_ok-check.ensures c.play_all.ensures
