-- `instructions::class::class_of` meets its contract, by the table's rule.
-- Assumes nothing.
use borrow.Author.Rules.{rules}
use Rattle.instructions.proofs.Table.{class_rule}
use Rattle.instructions.proofs.class.class_of.Goals as goal

pub returns : goal.returns
returns c =
    record { tells = class_rule c.classes-table.ensures c.args.byte (search rules) }
