-- One dot: which line a row shows, which column a segment shows, and when a dot is lit.
-- Assumes nothing.
use Rattle.std.specs.Prelude.{ℕ, ◌+◌, ◌-◌, ◌*◌, ◌/◌, ◌%◌, Bool, true, false, cond, not, List, get_or, ltb, eqb}
use Rattle.paper.specs.declared.sheet.Sheet.{Sheet}
use Rattle.registers.specs.declared.Registers.{Registers}
use Rattle.glass.specs.Bit.{bit_of}

-- row k shows line (start + k) mod 64 if SHL is 0, (start + rows - 1 - k) mod 64 if 1
unfoldable pub line_of : ℕ → ℕ → Bool → ℕ → ℕ
line_of rows start shl k = (start + cond shl (rows - 1 - k) k) % 64

-- segment s shows column s if ADC is 0, the last column less s if 1
unfoldable pub column_of : ℕ → Bool → ℕ → ℕ
column_of w adc s = cond adc (w - 1 - s) s

-- the bit of a line in a column: line 8p + b is bit b on page p, and line 64, the icons, is bit 0 on page 8
unfoldable pub cell_bit : ℕ → List ℕ → ℕ → ℕ → Bool
cell_bit w m line column = bit_of (get_or m (w * (line / 8) + column) 0) (line % 8)

-- a dot is dark if the display is off; else lit if entire display is on; else its bit, inverted if reverse is on
unfoldable pub dot_of : Bool → Bool → Bool → Bool → Bool
dot_of on entire reverse bit = cond on (cond entire true (cond reverse (not bit) bit)) false

-- the dot of a line under segment s
unfoldable pub dot_at : ℕ → Registers → List ℕ → ℕ → ℕ → Bool
dot_at w r m line s = dot_of r.on r.entire r.reverse (cell_bit w m line (column_of w r.adc s))

-- the dot of row k under segment s: the commons scroll, the icon row, row 64, shows line 64 always, and there are no other rows
unfoldable pub lit_of : Sheet → Registers → List ℕ → ℕ → ℕ → Bool
lit_of c r m k s =
    cond (ltb k c.rows) (dot_at c.width r m (line_of c.rows r.start_line r.shl k) s)
    (cond (eqb k 64) (dot_at c.width r m 64 s) false)
