-- `state::unfit::spare_used` meets its contract: the tests of the spare bytes, one after the other, are those of the definition.
-- Assumes nothing.
use mathlib.Core.Path.{refl}
use mathlib.Core.Bool.{Bool, false, ◌||◌}
use native.Mathlib.Omega.{arith}
use borrow.Author.Rules.{rules}
use borrow.Author.Tests.{tests}
use lib.Dec.{ltb}
use lib.ListN.{get_or}
use Rattle.std.proofs.lemmas.Iterator.{YieldsList-from_range}
use Rattle.std.proofs.lemmas.Iterator.Consumers.{fold_from_yields_List}
use Rattle.state.specs.Unfit.{spare_used}
use Rattle.state.proofs.unfit.spare_used.Goals as goal

pub returns : goal.returns
unfolding spare_used
returns c =
    let b = c.args.state.now in
    fold_from_yields_List _ (λ (a : Bool) i. a || ltb 0 (get_or b i 0)) false c.fold.result c.fold.ensures.ran
    (YieldsList-from_range 24 32 8 refl (omega arith))
    (λ a x r q k. search (rules, tests))
