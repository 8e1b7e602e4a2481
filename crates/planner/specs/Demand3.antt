-- Demand 3 in plain words, over any chip's sheet: registers, a memory, the controller's own run, and the bytes that the calls put into
-- their outputs. At the KS0713 that is at most 1,215 bytes and 1,219, at the KS0717 927 and 931.
-- Assumes nothing.
use Rattle.std.specs.Prelude.{ℕ, zero, suc, ◌+◌, ◌-◌, ◌*◌, ◌≤◌, ◌≡◌, false, cond, List, [], ◌∷◌, length, take, replicate, eqb, Ok, Err}
use Rattle.std.proofs.Math.Option.{none}
use Rattle.paper.specs.declared.refusal.Refusal.{Refusal}
use Rattle.paper.specs.declared.sheet.Sheet.{Sheet}
use Rattle.instructions.specs.declared.added.CommandSet.TheVariants.{Old}
use Rattle.instructions.specs.declared.instruction.Awaited.TheVariants as awaited
use Rattle.registers.specs.Registers.{outside, with_contrast, with_indicator, with_indicator_value, with_awaited, with_fresh}
use Rattle.registers.specs.declared.Registers.{Registers}
use Rattle.controller.specs.Run.{BusCycle}
use Rattle.controller.specs.State.{State, state, run, numbers, placed, rest, indicator_awaited}
use Rattle.controller.specs.Chip.{View}
use Rattle.streams.specs.Picture.{shown, Same, Between}
use Rattle.streams.specs.Stretch.{Stretch, OfKind, emit}
use Rattle.streams.specs.Update.{update}
use Rattle.streams.specs.Length.{update_length}
use Rattle.streams.specs.Redraw.{redraw}
use Rattle.streams.specs.Paint.{paint, drawn_all}
use Rattle.planner.specs.Sent.{IsUpdate, IsRedraw}

-- ---- premises

-- the reset pin high and all else unknown: registers in range, a memory of nine pages. Demand 3 speaks of the old command set
pub record PinHigh (k : Sheet) (r : Registers) (m : List ℕ) : Type 0 where
  pub ranged : outside k r ≡ false
  pub high : r.pin_low ≡ false
  pub long : length m ≡ 9 * k.width
  pub old : r.beside.set ≡ Old

-- the reset pin high, no second byte awaited, and the memory holding our recorded picture
pub record Holding (k : Sheet) (r : Registers) (m recorded : List ℕ) : Type 0 where
  pub pin : PinHigh k r m
  pub quiet : r.awaited ≡ awaited.Nothing
  pub same : Same k.width m recorded

-- ---- cycles, played on the chip

abbrev pub played : Sheet → Registers → List ℕ → List BusCycle → State
played k r m cycles = run k (state r m) cycles

-- no cycle is refused
abbrev pub Accepted : Sheet → Registers → List ℕ → List BusCycle → Type 0
Accepted k r m cycles = numbers k (state r m) cycles ≡ replicate (length cycles) 0

-- the first n pairs of kinds and bytes of two outputs
unfoldable pub pairs : ℕ → List ℕ → List ℕ → List BusCycle
pairs zero kinds out = []
pairs (suc n) [] out = []
pairs (suc n) (kind ∷ kinds) [] = []
pairs (suc n) (kind ∷ kinds) (byte ∷ out) = (kind, byte) ∷ pairs n kinds out

-- where stretches leave page, column and holder, and what they paint
abbrev pub ended : Sheet → Registers → List ℕ → List Stretch → View Registers
ended k r m xs = drawn_all k.width (record { page = r.page; column = r.column.0; holder = r.holder; memory = m; rest = rest r }) xs

-- ---- the update: from r and m to wanted, by these cycles

pub record Updates (k : Sheet) (r : Registers) (m recorded wanted : List ℕ) (cycles : List BusCycle) : Type 0 where
  pub accepted : Accepted k r m cycles
  -- it leaves exactly the wanted picture, so that the premises hold again with recorded := wanted
  pub holds : Holding k (played k r m cycles).registers (played k r m cycles).memory wanted
  -- exactly this memory, and no register but page, column and holder moved; and a data read after it is stale, unless it has no byte
  pub memory : (played k r m cycles).memory ≡ paint k.width m (update k.width recorded wanted)
  pub registers : (played k r m cycles).registers
      ≡ with_fresh (placed r (ended k r m (update k.width recorded wanted)).page (ended k r m (update k.width recorded wanted)).column (ended k r m (update k.width recorded wanted)).holder)
      (cond (eqb (length cycles) 0) r.fresh false)
  -- its byte count is 01's formula, never over that of all nine pages: 1,215 for 132 columns
  pub count : length cycles ≡ update_length k.width recorded wanted
  pub most : length cycles ≤ 9 * (k.width + 3)
  -- it is an update of the kind: its cycles are those of stretches of the kind, which leave the wanted picture
  pub of_kind : OfKind k.width (update k.width recorded wanted)
  pub stream : cycles ≡ emit none (update k.width recorded wanted)
  -- no update of that kind is shorter
  pub least : (xs : List Stretch) → OfKind k.width xs → Same k.width (played k r m (emit none xs)).memory wanted → length cycles ≤ length (emit none xs)
  -- cut off after any byte, every memory byte shows its recorded or its wanted value, and the chip is as after a restart at worst
  pub cut : (n : ℕ) → Between k.width recorded wanted (played k r m (take n cycles)).memory
  pub cut_accepted : (n : ℕ) → Accepted k r m (take n cycles)
  pub cut_pin : (n : ℕ) → PinHigh k (played k r m (take n cycles)).registers (played k r m (take n cycles)).memory

-- ---- the redraw: from whatever there is to wanted

-- the registers that a redraw leaves: page 8, the column behind the last, the holder the last data byte, the contrast given, the
-- indicator off, its value 3 if it was the one awaited, nothing awaited, a data read after it stale, and all else, a saved column too,
-- as it was
abbrev pub redrawn_from : Sheet → Registers → List ℕ → ℕ → Registers
redrawn_from k r wanted contrast =
    with_fresh (with_awaited (with_indicator_value (with_indicator (with_contrast (placed r 8 k.width (shown k.width wanted 8 (k.width - 1))) contrast) false) (cond (indicator_awaited r.awaited) 3 r.indicator_value)) awaited.Nothing) false

pub record Redraws (k : Sheet) (r : Registers) (m wanted : List ℕ) (contrast : ℕ) (cycles : List BusCycle) : Type 0 where
  pub accepted : Accepted k r m cycles
  -- it leaves the wanted picture, so that the premises of an update hold with recorded := wanted
  pub holds : Holding k (played k r m cycles).registers (played k r m cycles).memory wanted
  pub memory : (played k r m cycles).memory ≡ paint k.width m (redraw k.width wanted)
  pub registers : (played k r m cycles).registers ≡ redrawn_from k r wanted contrast
  pub count : length cycles ≡ 4 + 9 * (k.width + 3)
  pub cut_accepted : (n : ℕ) → Accepted k r m (take n cycles)
  pub cut_pin : (n : ℕ) → PinHigh k (played k r m (take n cycles)).registers (played k r m (take n cycles)).memory

-- ---- demand 3 for a chip

-- what its calls put into their outputs updates and redraws it; an update has at most `most` bytes and a redraw `whole`, and outputs of
-- so many bytes are long enough
pub record Demand3 (k : Sheet) (most whole : ℕ) : Type 0 where
  pub updates : (r : Registers) (m recorded wanted out kinds : List ℕ) (n : ℕ) (out' kinds' : List ℕ) → Holding k r m recorded
      → IsUpdate k.width recorded wanted out kinds (Ok n) out' kinds' → Updates k r m recorded wanted (pairs n kinds' out')
  pub redraws : (r : Registers) (m wanted : List ℕ) (contrast : ℕ) (out kinds : List ℕ) (n : ℕ) (out' kinds' : List ℕ) → PinHigh k r m
      → IsRedraw k.width wanted contrast out kinds (Ok n) out' kinds' → Redraws k r m wanted contrast (pairs n kinds' out')
  pub update_most : (recorded wanted out kinds : List ℕ) (n : ℕ) (out' kinds' : List ℕ)
      → IsUpdate k.width recorded wanted out kinds (Ok n) out' kinds' → n ≤ most
  pub redraw_whole : (wanted : List ℕ) (contrast : ℕ) (out kinds : List ℕ) (n : ℕ) (out' kinds' : List ℕ)
      → IsRedraw k.width wanted contrast out kinds (Ok n) out' kinds' → n ≡ whole
  pub update_room : (recorded wanted out kinds : List ℕ) (e : Refusal) (out' kinds' : List ℕ) → length recorded ≡ 9 * k.width → length wanted ≡ 9 * k.width
      → most ≤ length out → most ≤ length kinds → IsUpdate k.width recorded wanted out kinds (Err e) out' kinds' → ⊥
  pub redraw_room : (wanted : List ℕ) (contrast : ℕ) (out kinds : List ℕ) (e : Refusal) (out' kinds' : List ℕ) → length wanted ≡ 9 * k.width → contrast ≤ 63
      → whole ≤ length out → whole ≤ length kinds → IsRedraw k.width wanted contrast out kinds (Err e) out' kinds' → ⊥
