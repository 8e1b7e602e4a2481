-- `recorder::cycles::wrong_cycles` meets its contract: the chunks are the cycles, and one is looked for among them.
-- Assumes nothing.
use mathlib.Core.Path.{◌∙◌}
use borrow.Author.Rules.{rules}
use borrow.Author.Tests.{tests}
use Rattle.std.proofs.lemmas.Iterator.Search.{any_from_yields_List}
use Rattle.controller.specs.Cycle.{malformed}
use Rattle.recorder.proofs.Chunked.{cycles_chunked, wrong_listed}
use Rattle.recorder.proofs.cycles.wrong_cycles.Goals as goal

pub returns : goal.returns
returns c =
    any_from_yields_List (λ x. malformed x.0 x.1) _ _ c.any.result c.any.ensures.ran
    (cycles_chunked c.args.cycles.now c.chunks_exact.ensures.rest c.chunks_exact.ensures.size)
    (λ x b q k. search (rules, tests))
    ∙ wrong_listed _
