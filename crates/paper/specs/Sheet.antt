-- What differs from the data sheet of one chip to that of its sisters, and which sheets make sense.
-- Assumes nothing.
use Rattle.std.specs.Prelude.{◌*◌, ◌≤◌, ◌<◌}
use lib.Dec.{lit≤}
use Rattle.paper.specs.declared.sheet.Sheet.{Sheet}

-- the counter can stand behind the last column, is a byte and leaves at most one bit of a high column byte free; a row shows one
-- of 64 lines; the resistor starts in its range
pub record Sensible (k : Sheet) : Type 0 where
  pub wide : k.width < k.highs * 16
  pub byte : k.highs ≤ 16
  pub high : 8 ≤ k.highs
  pub lines : k.rows ≤ 64
  pub first : k.resistor < 8

-- the KS0713: 132 columns, a counter of eight bits, 64 rows, resistor 0 at start
abbrev pub sheet0713 : Sheet
sheet0713 = record { width = 132; highs = 16; rows = 64; resistor = 0 }

-- the KS0717: 100 columns, a counter of seven bits, 54 rows, resistor 4 at start (001's reset list: R2, R1, R0 = 1, 0, 0)
abbrev pub sheet0717 : Sheet
sheet0717 = record { width = 100; highs = 8; rows = 54; resistor = 4 }

-- both make sense
pub sensible0713 : Sensible sheet0713
sensible0713 = record { wide = lit≤ tt; byte = lit≤ tt; high = lit≤ tt; lines = lit≤ tt; first = lit≤ tt }

pub sensible0717 : Sensible sheet0717
sensible0717 = record { wide = lit≤ tt; byte = lit≤ tt; high = lit≤ tt; lines = lit≤ tt; first = lit≤ tt }
