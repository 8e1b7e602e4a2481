-- The lit frame: a picture's layout, with segments for columns and rows for lines.
-- Assumes nothing.
use Rattle.std.specs.Prelude.{ℕ, ◌+◌, ◌*◌, ◌/◌, ◌%◌, ◌≡◌, cond, not, ◌||◌, List, length, eqb, Result}
use Rattle.paper.specs.Refusal.{wrong_size, out_of_range}
use Rattle.paper.specs.Told.{given, refused, told}
use Rattle.paper.specs.Listed.{listed}
use Rattle.paper.specs.declared.refusal.Refusal.{Refusal}
use Rattle.paper.specs.declared.sheet.Sheet.{Sheet}
use Rattle.registers.specs.Registers.{outside}
use Rattle.registers.specs.declared.Registers.{Registers}
use Rattle.glass.specs.Bit.{sum_of}
use Rattle.glass.specs.Dot.{lit_of}

-- strip t under segment s: bit b is row 8t + b. Strip 8 has the icon row in bit 0, and its bits 1 to 7 are 0
unfoldable pub strip_byte : Sheet → Registers → List ℕ → ℕ → ℕ → ℕ
strip_byte c r m t s = sum_of (λ b. lit_of c r m (8 * t + b) s) 8

-- byte width · strip + segment is that strip under that segment
unfoldable pub frame_of : Sheet → Registers → List ℕ → List ℕ
frame_of c r m = listed (λ i. strip_byte c r m (i / c.width) (i % c.width)) 0 (9 * c.width)

-- the number that a frame call is refused with: 1 for memory or frame, then 2, 0 for none
unfoldable pub refusal : Sheet → Registers → ℕ → ℕ → ℕ
refusal c r memory frame =
    cond (not (eqb memory (9 * c.width)) || not (eqb frame (9 * c.width))) wrong_size (cond (outside c r) out_of_range 0)

-- what frame promises: its answer, and the frame that it leaves; a refusal leaves it
pub record IsShown (c : Sheet) (r : Registers) (m frame : List ℕ) (a : Result (Unit {0}) Refusal) (left : List ℕ) : Type 0 where
  pub tells : told a ≡ cond (eqb (refusal c r (length m) (length frame)) 0) (given tt) (refused (refusal c r (length m) (length frame)))
  pub leaves : left ≡ cond (eqb (refusal c r (length m) (length frame)) 0) (frame_of c r m) frame
