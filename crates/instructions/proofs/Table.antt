-- A table of classes that keeps its rule: which table it is, the class that it has for each byte, and that a byte is read by it as it
-- is read by the ranges.
-- Assumes nothing.
use Prim.Native.Nat.{ℕ, ◌<◌}
use mathlib.Core.Path.{◌≡◌, ◌∙◌, ap}
use mathlib.Core.List.{List}
use lib.ListN.{get_or}
use Rattle.paper.specs.Listed.{listed}
use Rattle.paper.specs.declared.sheet.Sheet.{Sheet}
use Rattle.paper.proofs.Listed.{at, filled}
use Rattle.instructions.specs.Read.{class_of, read_by, read_first}
use Rattle.instructions.specs.Class.{IsTable, read_by_table}

-- it is the one that the ranges fill: two tables that keep the rule are equal
pub table_is : {table : List ℕ} → IsTable table → table ≡ listed class_of 0 256
table_is {table} t = filled class_of 0 table t.none_wrong ∙ ap (listed class_of 0) t.entries

-- the entry of each byte is its class
pub class_rule : {table : List ℕ} → IsTable table → (b : ℕ) → b < 256 → get_or table b 0 ≡ class_of b
class_rule t b h = ap (λ l. get_or l b 0) (table_is t) ∙ at class_of 256 b h

-- the new reading is the old one: for every chip and every byte, by the table as by the ranges
pub reading_same : {table : List ℕ} → IsTable table → (k : Sheet) (b : ℕ) → b < 256 → read_by_table table k b ≡ read_first k b
unfolding read_first
reading_same t k b h = ap (λ (c : ℕ). read_by k c b) (class_rule t b h)
