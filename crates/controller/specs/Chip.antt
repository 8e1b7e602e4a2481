-- The laws of a controller that layers above may use, as two records of promises: any value of them will do.
-- Assumes nothing.
use Rattle.std.specs.Prelude.{ℕ, suc, ◌+◌, ◌*◌, ◌/◌, ◌%◌, ◌≤◌, ◌<◌, ◌≡◌, Bool, cond, false, List}
use Rattle.controller.specs.Memory.{stored}
use Rattle.controller.specs.Run.{BusCycle}

-- ---- the instruction cycles of a stream

-- a page byte, B0 + page
abbrev pub page_cycle : ℕ → BusCycle
page_cycle p = (0, 0xb0 + p)

-- a high column byte, 10 + high part
abbrev pub high_cycle : ℕ → BusCycle
high_cycle h = (0, 0x10 + h)

-- a low column byte, 00 + low part
abbrev pub low_cycle : ℕ → BusCycle
low_cycle l = (0, 0x00 + l)

abbrev pub data_cycle : ℕ → BusCycle
data_cycle b = (1, b)

-- E3, AC, 81, and the contrast byte that follows 81
abbrev pub nop_cycle : BusCycle
nop_cycle = (0, 0xe3)

abbrev pub off_cycle : BusCycle
off_cycle = (0, 0xac)

abbrev pub ask_cycle : BusCycle
ask_cycle = (0, 0x81)

abbrev pub contrast_cycle : ℕ → BusCycle
contrast_cycle v = (0, v)

-- ---- what a stream sees and moves

-- rest is all that a stream does not move
pub record View (R : Type 0) : Type 0 where
  pub page : ℕ
  pub column : ℕ
  pub holder : ℕ
  pub memory : List ℕ
  pub rest : R

module _ {R : Type 0} where
  abbrev pub on_page : ℕ → View R → View R
  on_page p v = record { page = p; column = v.column; holder = v.holder; memory = v.memory; rest = v.rest }

  abbrev pub on_column : ℕ → View R → View R
  on_column c v = record { page = v.page; column = c; holder = v.holder; memory = v.memory; rest = v.rest }

  abbrev pub with_rest : R → View R → View R
  with_rest x v = record { page = v.page; column = v.column; holder = v.holder; memory = v.memory; rest = x }

  -- a data write below the width w
  abbrev pub wrote : ℕ → ℕ → View R → View R
  wrote w b v = record { page = v.page; column = suc v.column; holder = b; memory = stored w v.memory v.page v.column b; rest = v.rest }

-- ---- what an update relies on: each cycle is accepted, ready stays, and this is what the view becomes

pub record Chip (W : ℕ) : Type 1 where
  pub State : Type 0
  pub Rest : Type 0
  pub view : State → View Rest
  pub Ready : State → Type 0
  pub step : State → BusCycle → State
  -- the number that a cycle is refused with, 0 for none
  pub number : State → BusCycle → ℕ
  pub page_law : (s : State) (p : ℕ) → Ready s → p ≤ 15
      → (number s (page_cycle p) ≡ 0) × Ready (step s (page_cycle p)) × (view (step s (page_cycle p)) ≡ on_page p (view s))
  pub high_law : (s : State) (h : ℕ) → Ready s → 16 * h < W
      → (number s (high_cycle h) ≡ 0) × Ready (step s (high_cycle h)) × (view (step s (high_cycle h)) ≡ on_column (16 * h + (view s).column % 16) (view s))
  pub low_law : (s : State) (l : ℕ) → Ready s → l < 16
      → (number s (low_cycle l) ≡ 0) × Ready (step s (low_cycle l)) × (view (step s (low_cycle l)) ≡ on_column (16 * ((view s).column / 16) + l) (view s))
  pub data_law : (s : State) (b : ℕ) → Ready s → (view s).column < W
      → (number s (data_cycle b) ≡ 0) × Ready (step s (data_cycle b)) × (view (step s (data_cycle b)) ≡ wrote W b (view s))

-- ---- what a redraw relies on besides

-- `settings` is the part of the rest that a redraw does not move either
pub record Restart {W : ℕ} (C : Chip W) : Type 1 where
  pub Settings : Type 0
  pub settings : C.Rest → Settings
  pub contrast : C.Rest → ℕ
  -- the indicator's mode and value, and whether its second byte is awaited
  pub indicator : C.Rest → Bool
  pub value : C.Rest → ℕ
  pub pending : C.Rest → Bool
  pub Restartable : C.State → Type 0
  pub ready_restartable : (s : C.State) → C.Ready s → Restartable s
  -- E3 spends an awaited second byte, whichever it is; the indicator value becomes 3 if it was that
  pub nop_law : (s : C.State) → Restartable s → (C.number s nop_cycle ≡ 0) × C.Ready (C.step s nop_cycle)
      × (with_rest (C.view s).rest (C.view (C.step s nop_cycle)) ≡ C.view s)
      × (settings (C.view (C.step s nop_cycle)).rest ≡ settings (C.view s).rest)
      × (value (C.view (C.step s nop_cycle)).rest ≡ cond (pending (C.view s).rest) 3 (value (C.view s).rest))
  -- AC turns the indicator off
  pub off_law : (s : C.State) → C.Ready s → (C.number s off_cycle ≡ 0) × C.Ready (C.step s off_cycle)
      × (with_rest (C.view s).rest (C.view (C.step s off_cycle)) ≡ C.view s)
      × (settings (C.view (C.step s off_cycle)).rest ≡ settings (C.view s).rest)
      × (value (C.view (C.step s off_cycle)).rest ≡ value (C.view s).rest)
      × (indicator (C.view (C.step s off_cycle)).rest ≡ false)
  -- 81 alone: a redraw can start over from there
  pub ask_law : (s : C.State) → C.Ready s → (C.number s ask_cycle ≡ 0) × Restartable (C.step s ask_cycle)
      × (with_rest (C.view s).rest (C.view (C.step s ask_cycle)) ≡ C.view s)
  -- 81 and a contrast
  pub contrast_law : (s : C.State) (v : ℕ) → C.Ready s → v < 64
      → (C.number (C.step s ask_cycle) (contrast_cycle v) ≡ 0) × C.Ready (C.step (C.step s ask_cycle) (contrast_cycle v))
      × (with_rest (C.view s).rest (C.view (C.step (C.step s ask_cycle) (contrast_cycle v))) ≡ C.view s)
      × (settings (C.view (C.step (C.step s ask_cycle) (contrast_cycle v))).rest ≡ settings (C.view s).rest)
      × (value (C.view (C.step (C.step s ask_cycle) (contrast_cycle v))).rest ≡ value (C.view s).rest)
      × (indicator (C.view (C.step (C.step s ask_cycle) (contrast_cycle v))).rest ≡ indicator (C.view s).rest)
      × (contrast (C.view (C.step (C.step s ask_cycle) (contrast_cycle v))).rest ≡ v)
