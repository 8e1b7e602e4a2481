-- The row ends before the first byte of another class.
use Prim.Native.Nat.{◌+◌}
use mathlib.Core.Path.{◌≡◌}
use mathlib.Core.Logic.{◌≢◌}
use native.Mathlib.Omega.{arith}
use borrow.Author.Rules.{rules}
use borrow.Author.Tests.{tests}
use Rattle.std.proofs.lemmas.Iterator.{first_from_Range}
use Rattle.instructions.specs.Read.{class_of}
use Rattle.listing.proofs.Rows.{row_found}
use Rattle.listing.proofs.row.row_end.Goals as goal

pub returns : goal.returns
returns c =
    let first = c.args.first in
    rw c.unwrap_or.ensures
    (row_found first c.find.result c.requires (omega arith)
    (first_from_Range _ _ _ c.find.result (λ b. class_of (b + 1) ≢ class_of first) (λ b. class_of (b + 1) ≡ class_of first) c.find.ensures.ran
    (λ x q k. search (rules, tests)) (λ x q k. search (rules, tests))))
