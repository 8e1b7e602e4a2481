-- A frame that is drawn byte by byte, under each segment of a strip and strip by strip.
-- Assumes nothing.
use Prim.Native.Nat.{ℕ, ◌+◌, ◌*◌, ◌≤◌, ◌<◌}
use mathlib.Core.Path.{◌≡◌, sym, ◌∙◌}
use mathlib.Core.List.{List}
use native.Mathlib.Nat.{mul-le-mul_left}
use native.Mathlib.Omega.{arith}
use lib.ListN.{get_or, set, length-set}
use lib.Seq.{ext_get_or}
use Rattle.paper.specs.declared.sheet.Sheet.{Sheet}
use Rattle.paper.proofs.Listed.{more}
use Rattle.registers.specs.declared.Registers.{Registers}
use Rattle.controller.proofs.Cells.{place}
use Rattle.glass.specs.Frame.{strip_byte, frame_of}
use Rattle.glass.specs.Filling.{DrawnTo}
use Rattle.glass.proofs.Readers.{strip_at, frame_length}

module _ (c : Sheet) (r : Registers) (m : List ℕ) where
  -- one segment more
  pub drawn_next : (t s v : ℕ) (out : List ℕ) → t < 9 → s < c.width → v ≡ strip_byte c r m t s → DrawnTo c r m (c.width * t + s) out
      → DrawnTo c r m (c.width * t + (s + 1)) (set out (c.width * t + s) v)
  drawn_next t s v out ht hs e d =
      let i = c.width * t + s in
      let more_here = more (λ (k : ℕ). get_or (frame_of c r m) k 0) out i v (omega (arith, place c.width t s ht hs, d.0)) (e ∙ sym (strip_at c r m t s ht hs)) d.1 in
      (length-set out i v ∙ d.0, λ k h. more_here k (omega arith))

  -- all of them are
  pub drawn_whole : (t : ℕ) (out : List ℕ) → 9 ≤ t → DrawnTo c r m (c.width * t) out → out ≡ frame_of c r m
  drawn_whole t out le d =
      ext_get_or 0 out (frame_of c r m) (d.0 ∙ sym (frame_length c r m)) (λ k h. d.1 k (omega (arith, d.0, mul-le-mul_left c.width le)))
