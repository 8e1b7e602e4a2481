-- `planner::picture::Picture::put_wanted` meets its contract: before each column, the wanted bytes from there on, put now, give all of them.
-- Assumes nothing.
use Prim.Native.Nat.{◌-◌}
use mathlib.Core.List.{map}
use Rattle.controller.specs.Chip.{data_cycle}
use Rattle.streams.specs.Update.{wanted_bytes}
use Rattle.planner.proofs.Writing.{Going}
use Rattle.planner.proofs.picture.Picture.put_wanted.Given as goal

abbrev pub invariant-loop-column : goal.invariant-loop-column
invariant-loop-column l =
    Going (map data_cycle (wanted_bytes l.self.width l.self.bytes.now l.page l.column (l.to - l.column))) (map data_cycle (wanted_bytes l.self.width l.self.bytes.now l.page l.from (l.to - l.from)))
    l.initial.out l.initial.kinds l.at l.out l.kinds l.next
