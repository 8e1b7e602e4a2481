-- `jobs::play::Good::turn` meets its contract: the line of a cycle's answer is the line by its kind and the answer taken apart.
-- Assumes nothing.
use Prim.Native.Nat.{ℕ}
use mathlib.Core.Path.{sym, ap, subst, ◌∙◌}
use mathlib.Core.List.{List}
use Rattle.jobs.specs.Header.{cycle_at}
use Rattle.jobs.specs.Play.{line_of}
use Rattle.jobs.specs.Output.{line_most}
use Rattle.jobs.specs.Texts.{Puts}
use Rattle.jobs.proofs.Lines.{line_is}
use Rattle.jobs.proofs.play.Good.turn.Goals as goal

pub returns-clause-by_kind : goal.returns-clause-by_kind
returns-clause-by_kind c =
    let x = cycle_at c.args.self.now.file.now c.args.i in
    let e = line_is c.args.i c.args.registers c.args.memory.now x.0 x.1 in
    subst (λ (l : List ℕ). Puts c.args.text.now l c.answer.new.self line_most) (ap (line_of c.args.i) c.cycle-answer.ensures.tells ∙ sym e) c.answer.ensures
