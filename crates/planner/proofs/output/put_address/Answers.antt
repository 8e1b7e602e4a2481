-- `planner::output::put_address` meets its contract: the page byte, then the column bytes.
-- Assumes nothing.
use mathlib.Core.List.{[], ◌∷◌}
use Rattle.controller.specs.Chip.{page_cycle}
use Rattle.streams.specs.Stretch.{column_bytes}
use Rattle.planner.proofs.Writing.{wrote_both}
use Rattle.planner.proofs.output.put_address.Goals as goal

pub returns : goal.returns
returns c =
    wrote_both (page_cycle c.args.page ∷ []) (column_bytes c.args.column) c.requires.2 c.put-next.ensures c.put_column.ensures
