-- Stretches, and the cycles that send a list of them.
-- Assumes nothing.
use Rattle.std.specs.Prelude.{ℕ, ◌+◌, ◌/◌, ◌%◌, ◌≤◌, Bool, false, cond, List, [], ◌∷◌, ◌++◌, map, length, eqb}
use Rattle.std.proofs.Math.Option.{Option, none, some}
use Rattle.controller.specs.Run.{BusCycle}
use Rattle.controller.specs.Chip.{page_cycle, high_cycle, low_cycle, data_cycle}

-- at least one data byte, on one page from a column on
pub record Stretch : Type 0 where
  pub page : ℕ
  pub start : ℕ
  pub content : List ℕ

-- where a stretch ended: its page, and the column after its last byte
pub record Place : Type 0 where
  pub page : ℕ
  pub column : ℕ

abbrev pub end_of : Stretch → Place
end_of x = record { page = x.page; column = x.start + length x.content }

-- a list of the kind: each stretch on a page that a page byte names, not empty, ending at or before the last column
abbrev pub OfKind : ℕ → List Stretch → Type 0
OfKind W [] = Unit {0}
OfKind W (x ∷ xs) = (x.page ≤ 15) × (1 ≤ length x.content) × (x.start + length x.content ≤ W) × OfKind W xs

-- the stretch before it in the same stream was on page p
unfoldable pub on_it : Option Place → ℕ → Bool
on_it none p = false
on_it (some l) p = eqb l.page p

-- two column bytes: 10 + high part, then 00 + low part
abbrev pub column_bytes : ℕ → List BusCycle
column_bytes c = high_cycle (c / 16) ∷ low_cycle (c % 16) ∷ []

-- what goes ahead of a stretch's data: the page byte is left out exactly when the stretch before it was on that page
unfoldable pub address : Option Place → Stretch → List BusCycle
address before x = cond (on_it before x.page) [] (page_cycle x.page ∷ []) ++ column_bytes x.start

-- the cycles of a list of stretches, by what goes ahead of each; `before` is where the stretch before ended
unfoldable pub emit_by : (Option Place → Stretch → List BusCycle) → Option Place → List Stretch → List BusCycle
emit_by ahead before [] = []
emit_by ahead before (x ∷ xs) = ahead before x ++ (map data_cycle x.content ++ emit_by ahead (some (end_of x)) xs)

abbrev pub emit : Option Place → List Stretch → List BusCycle
emit before xs = emit_by address before xs

-- where the last of the stretches ended
unfoldable pub after : Option Place → List Stretch → Option Place
after before [] = before
after before (x ∷ xs) = after (some (end_of x)) xs
