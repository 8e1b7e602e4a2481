-- Demand 3 over any chip that keeps the laws: its premises, and what is promised of an update and of a redraw.
-- Assumes nothing.
use Rattle.std.specs.Prelude.{ℕ, ◌-◌, ◌*◌, ◌≡◌, false, cond, List, length, replicate}
use Rattle.controller.specs.Run.{BusCycle, run_by, numbers_by}
use Rattle.controller.specs.Chip.{Chip, Restart}
use Rattle.streams.specs.Picture.{shown, Same, Between}
use Rattle.streams.specs.Update.{update, update_stream}
use Rattle.streams.specs.Redraw.{redraw, redraw_stream}
use Rattle.streams.specs.Paint.{paint, drawn_all}

-- ---- premises

-- of an update: the chip takes instructions, and its memory shows the recorded picture
pub record Recorded {W : ℕ} (C : Chip W) (s : C.State) (recorded : List ℕ) : Type 0 where
  pub ready : C.Ready s
  pub sized : length (C.view s).memory ≡ 9 * W
  pub same : Same W (C.view s).memory recorded

-- of a redraw: whatever is awaited, whatever the memory shows
pub record Restarts {W : ℕ} (C : Chip W) (D : Restart C) (s : C.State) : Type 0 where
  pub restartable : D.Restartable s
  pub sized : length (C.view s).memory ≡ 9 * W

-- ---- promises

-- played from s, no cycle is refused, and then the premises of an update hold with this picture
pub record Leaves {W : ℕ} (C : Chip W) (s : C.State) (cycles : List BusCycle) (picture : List ℕ) : Type 0 where
  pub accepted : numbers_by C.step C.number s cycles ≡ replicate (length cycles) 0
  pub recorded : Recorded C (run_by C.step s cycles) picture

-- cut off after these cycles: none is refused, and a redraw may start
pub record Stopped {W : ℕ} (C : Chip W) (D : Restart C) (s : C.State) (cycles : List BusCycle) : Type 0 where
  pub accepted : numbers_by C.step C.number s cycles ≡ replicate (length cycles) 0
  pub restarts : Restarts C D (run_by C.step s cycles)

-- a whole update, from s to t
pub record Updated {W : ℕ} (C : Chip W) (s : C.State) (recorded wanted : List ℕ) (t : C.State) : Type 0 where
  pub leaves : Leaves C s (update_stream W recorded wanted) wanted
  -- page, column, holder, memory and rest, exactly
  pub exact : C.view t ≡ drawn_all W (C.view s) (update W recorded wanted)
  pub memory : (C.view t).memory ≡ paint W (C.view s).memory (update W recorded wanted)
  pub rest : (C.view t).rest ≡ (C.view s).rest

-- an update that was cut, from s to t: nothing is said of page, column and holder
pub record Cut {W : ℕ} (C : Chip W) (s : C.State) (recorded wanted : List ℕ) (t : C.State) : Type 0 where
  pub ready : C.Ready t
  pub sized : length (C.view t).memory ≡ 9 * W
  -- every memory byte shows its recorded or its wanted value
  pub between : Between W recorded wanted (C.view t).memory
  pub rest : (C.view t).rest ≡ (C.view s).rest

-- a whole redraw, from s to t
pub record Redrawn {W : ℕ} (C : Chip W) (D : Restart C) (s : C.State) (wanted : List ℕ) (given : ℕ) (t : C.State) : Type 0 where
  pub leaves : Leaves C s (redraw_stream W wanted given) wanted
  pub memory : (C.view t).memory ≡ paint W (C.view s).memory (redraw W wanted)
  pub page : (C.view t).page ≡ 8
  pub column : (C.view t).column ≡ W
  -- the last data byte
  pub holder : (C.view t).holder ≡ shown W wanted 8 (W - 1)
  pub contrast : D.contrast (C.view t).rest ≡ given
  pub indicator : D.indicator (C.view t).rest ≡ false
  -- the indicator value becomes 3 if it was the one awaited
  pub value : D.value (C.view t).rest ≡ cond (D.pending (C.view s).rest) 3 (D.value (C.view s).rest)
  -- no other setting moves
  pub settings : D.settings (C.view t).rest ≡ D.settings (C.view s).rest
