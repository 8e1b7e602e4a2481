-- Order 10's figures: the groups of a picture that differs on pages 0, 3 and 8, byte by byte; three orders of them, and what each leaves.
-- `proofs/GroupsHold.antt` proves them by computing.
-- Assumes nothing.
use Rattle.std.specs.Prelude.{ℕ, ◌≡◌, List, [], ◌∷◌, ◌++◌}
use Rattle.controller.specs.Run.{BusCycle}
use Rattle.streams.specs.Update.{update_stream}
use Rattle.streams.specs.Shape.{group}
use Rattle.streams.specs.Order.{times, rising, groups_in}
use Rattle.figures.specs.Figures.{zeros, spot, icons, instruction, byte, after}

-- page 0 differs from zeros at columns 10 and 12, page 3 at column 0, page 8 at column 131
abbrev pub three : List ℕ
three = spot 0 10 1 (spot 0 12 2 (spot 3 0 0xff (spot 8 131 0xff zeros)))

abbrev pub group_of : ℕ → List BusCycle
group_of p = group 132 zeros three p

abbrev pub groups : List ℕ → List BusCycle
groups order = groups_in 132 zeros three order

-- ---- the three groups

-- B0 10 0A 01 00 02: the equal column between is written again
abbrev pub page_0 : List BusCycle
page_0 = instruction 0xb0 ∷ instruction 0x10 ∷ instruction 0x0a ∷ byte 1 ∷ byte 0 ∷ byte 2 ∷ []

-- B3 10 00 FF: the page byte and both column bytes, column 0 or not
abbrev pub page_3 : List BusCycle
page_3 = instruction 0xb3 ∷ instruction 0x10 ∷ instruction 0x00 ∷ byte 0xff ∷ []

-- B8 18 03 01: of FF page 8 takes bit 0
abbrev pub page_8 : List BusCycle
page_8 = instruction 0xb8 ∷ instruction 0x18 ∷ instruction 0x03 ∷ byte 1 ∷ []

-- what the update leaves
abbrev pub left : List ℕ
left = spot 0 10 1 (spot 0 12 2 (spot 3 0 0xff (spot 8 131 1 zeros)))

pub record Groups : Type 0 where
  pub first : group_of 0 ≡ page_0
  pub middle : group_of 3 ≡ page_3
  pub last : group_of 8 ≡ page_8
  -- a page that does not differ, and page 8 where only other bits do: no group
  pub equal_page : group_of 5 ≡ []
  pub other_bits : group 132 zeros (icons 0xfe) 8 ≡ []
  -- the update is the groups in rising order
  pub update : update_stream 132 zeros three ≡ page_0 ++ (page_3 ++ page_8)
  -- the orders 8 3 0 and 3 8 0; page 5 may stand among them
  pub falling : groups (8 ∷ 3 ∷ 0 ∷ []) ≡ page_8 ++ (page_3 ++ page_0)
  pub icons_between : groups (3 ∷ 8 ∷ 0 ∷ []) ≡ page_3 ++ (page_8 ++ page_0)
  pub with_page_5 : groups (5 ∷ 3 ∷ 8 ∷ 0 ∷ []) ≡ page_3 ++ (page_8 ++ page_0)
  -- played from power-up: the same memory
  pub rising_memory : (after (page_0 ++ (page_3 ++ page_8))).memory ≡ left
  pub falling_memory : (after (page_8 ++ (page_3 ++ page_0))).memory ≡ left
  pub between_memory : (after (page_3 ++ (page_8 ++ page_0))).memory ≡ left
  -- and page and column of the last group: 8 and 132, 0 and 13
  pub rising_page : (after (page_0 ++ (page_3 ++ page_8))).registers.page ≡ 8
  pub rising_column : (after (page_0 ++ (page_3 ++ page_8))).registers.column.0 ≡ 132
  pub falling_page : (after (page_8 ++ (page_3 ++ page_0))).registers.page ≡ 0
  pub falling_column : (after (page_8 ++ (page_3 ++ page_0))).registers.column.0 ≡ 13
  -- how often a page stands in a list; the nine pages, rising
  pub once : times 3 (8 ∷ 3 ∷ 0 ∷ []) ≡ 1
  pub twice : times 3 (3 ∷ 8 ∷ 3 ∷ []) ≡ 2
  pub never : times 9 (8 ∷ 3 ∷ 0 ∷ []) ≡ 0
  pub nine : rising 0 9 ≡ 0 ∷ 1 ∷ 2 ∷ 3 ∷ 4 ∷ 5 ∷ 6 ∷ 7 ∷ 8 ∷ []
