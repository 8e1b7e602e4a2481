-- `jobs::play::Good::play` meets its contract: before each cycle, the text from it on is what remains to be put.
-- Assumes nothing.
use Prim.Native.Nat.{◌-◌, ◌*◌, ◌≤◌}
use Rattle.std.proofs.Common.{◌≡◌}
use Rattle.controller.specs.State.{state}
use Rattle.jobs.specs.Play.{text_from, power_up}
use Rattle.jobs.specs.Output.{Remains, line_most}
use Rattle.jobs.proofs.play.Good.play.Given as goal

abbrev pub invariant-loop-i : goal.invariant-loop-i
invariant-loop-i l =
    (l.text.at ≤ line_most * l.i)
    × (l.text.out.ghost_name ≡ l.initial.text.out.ghost_name)
    × Remains (text_from l.self.file.now l.self.job (power_up l.self.file.now l.self.job) 0 l.self.job.cycles)
    l.initial.text.out.now l.text.out.now l.text.at
    (text_from l.self.file.now l.self.job (state l.registers l.memory) l.i (l.self.job.cycles - l.i))
