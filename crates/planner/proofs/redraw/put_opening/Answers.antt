-- `planner::redraw::put_opening` meets its contract: two cycles, then two more.
-- Assumes nothing.
use mathlib.Core.List.{[], ◌∷◌}
use Rattle.controller.specs.Chip.{nop_cycle, off_cycle, ask_cycle, contrast_cycle}
use Rattle.planner.proofs.Writing.{wrote_both}
use Rattle.planner.proofs.redraw.put_opening.Goals as goal

pub returns : goal.returns
returns c =
    wrote_both (nop_cycle ∷ off_cycle ∷ []) (ask_cycle ∷ contrast_cycle c.args.contrast ∷ []) c.requires c.put_two-next.ensures c.put_two.ensures
