-- Internal: a frame that is drawn as far as a loop has come.
-- Assumes nothing.
use Rattle.std.specs.Prelude.{ℕ, ◌*◌, ◌<◌, ◌≡◌, List, length, get_or}
use Rattle.paper.specs.declared.sheet.Sheet.{Sheet}
use Rattle.registers.specs.declared.Registers.{Registers}
use Rattle.glass.specs.Frame.{frame_of}

-- the first n bytes are the frame's
abbrev pub DrawnTo : Sheet → Registers → List ℕ → ℕ → List ℕ → Type 0
DrawnTo c r m n out = (length out ≡ 9 * c.width) × ((k : ℕ) → k < n → get_or out k 0 ≡ get_or (frame_of c r m) k 0)
