-- The update's page groups in any order, in plain words, over any chip's sheet: registers, a memory, the controller's own run, and the
-- bytes that calls of page_group put into their outputs. For this kind of update only: each of its groups begins with its page byte, so
-- that none leans on the one before.
-- Assumes nothing.
use Rattle.std.specs.Prelude.{ℕ, ◌+◌, ◌*◌, ◌≤◌, ◌≡◌, false, cond, List, [], ◌∷◌, ◌++◌, map, length, take, eqb, Ok}
use Rattle.paper.specs.declared.sheet.Sheet.{Sheet}
use Rattle.registers.specs.Registers.{with_fresh}
use Rattle.registers.specs.declared.Registers.{Registers}
use Rattle.controller.specs.Run.{BusCycle}
use Rattle.controller.specs.State.{placed}
use Rattle.streams.specs.Picture.{Between}
use Rattle.streams.specs.Update.{update_stream}
use Rattle.streams.specs.Length.{update_length}
use Rattle.streams.specs.Shape.{group}
use Rattle.streams.specs.Order.{work_in, Last, Ends}
use Rattle.planner.specs.Group.{IsGroup}
use Rattle.planner.specs.Demand3.{PinHigh, Holding, played, Accepted, pairs, ended}

-- from r and m to wanted, by these cycles: the groups of the pages of `order`, each sent once
pub record InAnyOrder (k : Sheet) (r : Registers) (m recorded wanted order : List ℕ) (cycles : List BusCycle) : Type 0 where
  pub accepted : Accepted k r m cycles
  -- exactly the wanted picture, so that the premises hold again with recorded := wanted
  pub holds : Holding k (played k r m cycles).registers (played k r m cycles).memory wanted
  -- the same display memory as after the update, byte for byte
  pub memory : (played k r m cycles).memory ≡ (played k r m (update_stream k.width recorded wanted)).memory
  -- the same total length
  pub count : length cycles ≡ update_length k.width recorded wanted
  pub most : length cycles ≤ 9 * (k.width + 3)
  -- page and column are those of the last group: its page, and the column after the last one that differs there
  pub last : (p : ℕ) → Last k.width recorded wanted order p
      → ((played k r m cycles).registers.page ≡ p) × Ends k.width recorded wanted p (played k r m cycles).registers.column.0
  -- if there is no group, both stay, and so does all else
  pub none : ((p : ℕ) → p ≤ 8 → group k.width recorded wanted p ≡ []) → (played k r m cycles).registers ≡ r
  -- no register but page, column and holder moves; the holder may differ with the order. A data read after it is stale, unless it has
  -- no byte
  pub registers : (played k r m cycles).registers
      ≡ with_fresh (placed r (ended k r m (work_in k.width recorded wanted order)).page (ended k r m (work_in k.width recorded wanted order)).column (ended k r m (work_in k.width recorded wanted order)).holder)
      (cond (eqb (length cycles) 0) r.fresh false)
  -- cut off after any byte, every memory byte shows its recorded or its wanted value, and the chip is as after a restart at worst
  pub cut : (n : ℕ) → Between k.width recorded wanted (played k r m (take n cycles)).memory
  pub cut_accepted : (n : ℕ) → Accepted k r m (take n cycles)
  pub cut_pin : (n : ℕ) → PinHigh k (played k r m (take n cycles)).registers (played k r m (take n cycles)).memory

-- after these cycles the record is this picture: none is refused, and the premises of an update hold with it
pub record Follows (k : Sheet) (r : Registers) (m : List ℕ) (cycles : List BusCycle) (picture : List ℕ) : Type 0 where
  pub accepted : Accepted k r m cycles
  pub holds : Holding k (played k r m cycles).registers (played k r m cycles).memory picture

-- ---- calls of page_group

-- one of them: its page, the outputs lent to it, how many bytes it answered, and what it left in the outputs
pub record Call : Type 0 where
  pub page : ℕ
  pub out : List ℕ
  pub kinds : List ℕ
  pub bytes : ℕ
  pub out_left : List ℕ
  pub kinds_left : List ℕ

-- each of them keeps page_group's promise, and none was refused
abbrev pub Answered : Sheet → List ℕ → List ℕ → List Call → Type 0
Answered k recorded wanted [] = Unit {0}
Answered k recorded wanted (c ∷ calls) =
    IsGroup k.width recorded wanted c.page c.out c.kinds (Ok c.bytes) c.out_left c.kinds_left × Answered k recorded wanted calls

-- their pages, in the order of the calls
abbrev pub pages_of : List Call → List ℕ
pages_of calls = map (λ (c : Call). c.page) calls

-- how many bytes they answered in all, and the bytes that they put out, one call after the other
unfoldable pub total : List Call → ℕ
total [] = 0
total (c ∷ calls) = c.bytes + total calls

unfoldable pub joined : List Call → List BusCycle
joined [] = []
joined (c ∷ calls) = pairs c.bytes c.kinds_left c.out_left ++ joined calls
