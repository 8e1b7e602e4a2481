-- The update's page groups in any order: which orders there are, what they send, where they end, and what is promised over any chip
-- that keeps the laws. A group begins with its page byte, so none leans on the one before.
-- Assumes nothing.
use Rattle.std.specs.Prelude.{ℕ, zero, suc, ◌+◌, ◌≤◌, ◌<◌, ◌≡◌, ◌≢◌, true, cond, List, [], ◌∷◌, ◌++◌, length, take, eqb}
use Rattle.controller.specs.Run.{BusCycle, run_by}
use Rattle.controller.specs.Chip.{Chip}
use Rattle.streams.specs.Picture.{shown, differs}
use Rattle.streams.specs.Stretch.{Stretch}
use Rattle.streams.specs.Update.{page_work, update_stream}
use Rattle.streams.specs.Length.{update_length}
use Rattle.streams.specs.Paint.{drawn_all}
use Rattle.streams.specs.Shape.{Equal, group}
use Rattle.streams.specs.Demand.{Leaves, Cut}

-- ---- orders

-- how often page p stands in a list of pages
unfoldable pub times : ℕ → List ℕ → ℕ
times p [] = 0
times p (q ∷ order) = cond (eqb q p) 1 0 + times p order

-- each group is sent once: every page that differs stands in the list exactly once, and no page above 8 does. A page that does not
-- differ has no group, so it may stand there or not
pub record EachOnce (W : ℕ) (recorded wanted : List ℕ) (order : List ℕ) : Type 0 where
  pub once : (p : ℕ) → p ≤ 8 → group W recorded wanted p ≢ [] → times p order ≡ 1
  pub pages : (p : ℕ) → 9 ≤ p → times p order ≡ 0

-- the n pages from p on, rising: the update's own order is that of the 9 from 0 on
unfoldable pub rising : ℕ → ℕ → List ℕ
rising p zero = []
rising p (suc n) = p ∷ rising (suc p) n

-- the groups in that order, one after the other
unfoldable pub groups_in : ℕ → List ℕ → List ℕ → List ℕ → List BusCycle
groups_in W recorded wanted [] = []
groups_in W recorded wanted (p ∷ order) = group W recorded wanted p ++ groups_in W recorded wanted order

-- and their stretches
unfoldable pub work_in : ℕ → List ℕ → List ℕ → List ℕ → List Stretch
work_in W recorded wanted [] = []
work_in W recorded wanted (p ∷ order) = page_work W recorded wanted p ++ work_in W recorded wanted order

-- ---- some of the groups

-- a picture that shows the wanted one on the pages of the list and the recorded one on all others
abbrev pub Mixed : ℕ → List ℕ → List ℕ → List ℕ → List ℕ → Type 0
Mixed W recorded wanted order picture =
    (p c : ℕ) → p ≤ 8 → c < W → shown W picture p c ≡ cond (eqb (times p order) 0) (shown W recorded p c) (shown W wanted p c)

-- ---- where it ends

-- the last group is that of page p: p has one, and no page after it in the list has
pub record Last (W : ℕ) (recorded wanted : List ℕ) (order : List ℕ) (p : ℕ) : Type 0 where
  pub before : List ℕ
  pub later : List ℕ
  pub stands : order ≡ before ++ (p ∷ later)
  pub sends : group W recorded wanted p ≢ []
  pub alone : (q : ℕ) → group W recorded wanted q ≢ [] → times q later ≡ 0

-- c is the column after the last one of page p that differs
pub record Ends (W : ℕ) (recorded wanted : List ℕ) (p c : ℕ) : Type 0 where
  pub inside : c ≤ W
  pub past : 1 ≤ c
  pub last : (k : ℕ) → suc k ≡ c → differs W recorded wanted p k ≡ true
  pub equal : Equal (differs W recorded wanted p) c W

-- ---- promises

-- all groups, each sent once in this order, from s to t
pub record Reordered {W : ℕ} (C : Chip W) (s : C.State) (recorded wanted : List ℕ) (order : List ℕ) (t : C.State) : Type 0 where
  -- no cycle is refused, and the premises hold again with recorded := wanted
  pub leaves : Leaves C s (groups_in W recorded wanted order) wanted
  -- the update's own memory, byte for byte
  pub memory : (C.view t).memory ≡ (C.view (run_by C.step s (update_stream W recorded wanted))).memory
  -- the update's length
  pub count : length (groups_in W recorded wanted order) ≡ update_length W recorded wanted
  -- page, column, holder, memory and rest, exactly
  pub exact : C.view t ≡ drawn_all W (C.view s) (work_in W recorded wanted order)
  -- page and column are those of the last group, if any
  pub ends_last : (p : ℕ) → Last W recorded wanted order p → ((C.view t).page ≡ p) × Ends W recorded wanted p (C.view t).column
  -- if there is none, nothing at all moves
  pub ends_none : ((p : ℕ) → p ≤ 8 → group W recorded wanted p ≡ []) → t ≡ s
  pub rest : (C.view t).rest ≡ (C.view s).rest
  -- cut off after any byte, every memory byte shows its recorded or its wanted value
  pub cut : (n : ℕ) → Cut C s recorded wanted (run_by C.step s (take n (groups_in W recorded wanted order)))
