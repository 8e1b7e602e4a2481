-- A table of the classes of all 256 bytes: its rule, and reading by it.
-- Assumes nothing.
use Rattle.std.specs.Prelude.{ℕ, ◌≡◌, List, [], length, get_or}
use Rattle.paper.specs.Listed.{astray}
use Rattle.paper.specs.Told.{Told}
use Rattle.paper.specs.declared.sheet.Sheet.{Sheet}
use Rattle.instructions.specs.Read.{class_of, read_by}
use Rattle.instructions.specs.declared.instruction.Instruction.{Instruction}

-- the rule of a table of classes: it has 256 entries, and none is wrong, that is, another than its byte's class by the ranges
pub record IsTable (table : List ℕ) : Type 0 where
  pub entries : length table ≡ 256
  pub none_wrong : astray class_of 0 table ≡ []

-- a byte where nothing is awaited, by a table in place of the ranges
abbrev pub read_by_table : List ℕ → Sheet → ℕ → Told Instruction
read_by_table table k b = read_by k (get_or table b 0) b

-- what class_of promises
pub record IsClass (b r : ℕ) : Type 0 where
  pub tells : r ≡ class_of b
