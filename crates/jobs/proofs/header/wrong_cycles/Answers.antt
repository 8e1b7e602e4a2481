-- `jobs::header::wrong_cycles` meets its contract: a wrong cycle is looked for among their numbers.
-- Assumes nothing.
use mathlib.Core.Path.{refl, ◌∙◌}
use native.Mathlib.Omega.{arith}
use borrow.Author.Rules.{rules}
use borrow.Author.Tests.{tests}
use Rattle.std.proofs.lemmas.Iterator.{YieldsList-from_range}
use Rattle.std.proofs.lemmas.Iterator.Search.{any_from_yields_List}
use Rattle.controller.specs.Cycle.{malformed}
use Rattle.jobs.specs.Header.{cycle_at}
use Rattle.jobs.proofs.Scan.{scan_listed}
use Rattle.jobs.proofs.header.wrong_cycles.Goals as goal

pub returns : goal.returns
returns c =
    let file = c.args.file.now in
    any_from_yields_List (λ i. malformed (cycle_at file i).0 (cycle_at file i).1) _ _ c.any.result c.any.ensures.ran
    (YieldsList-from_range 0 c.args.n c.args.n refl (omega arith))
    (λ x b q k. search (rules, tests))
    ∙ scan_listed file 0 c.args.n
