-- Where a byte of a frame stands, and how long memory and frame are where nothing is refused.
-- Assumes nothing.
use Prim.Native.Nat.{ℕ, ◌+◌, ◌*◌, ◌/◌, ◌%◌, ◌≤◌, ◌<◌}
use mathlib.Core.Path.{◌≡◌}
use mathlib.Core.Bool.{false, not, ◌||◌}
use native.Mathlib.Omega.{arith}
use native.Mathlib.Nat.{div-lt_iff_lt-mul, mod-lt}
use lib.Dec.{eqb}
use borrow.Author.Tests.{eqb-true, not-false}
use Rattle.paper.specs.Refusal.{wrong_size}
use Rattle.paper.specs.declared.sheet.Sheet.{Sheet}
use Rattle.paper.proofs.Either.{neither}
use Rattle.paper.proofs.Exactly.{past}
use Rattle.registers.specs.declared.Registers.{Registers}
use Rattle.controller.proofs.Cells.{place}
use Rattle.glass.specs.Frame.{refusal}

-- a line is on one of 9 pages
pub line_place : (w line c : ℕ) → line ≤ 64 → c < w → w * (line / 8) + c < 9 * w
line_place w line c hl hc = place w (line / 8) c (omega arith) hc

-- byte i of a frame is on one of 9 strips, under one of w segments
pub strip : (w i : ℕ) → 1 ≤ w → i < 9 * w → i / w < 9
strip w i hw h = (div-lt_iff_lt-mul hw).1 h

pub segment : (w i : ℕ) → 1 ≤ w → i % w < w
segment w i hw = mod-lt i hw

-- two lengths of which neither is wrong
pub right_sizes : (size m n : ℕ) → not (eqb m size) || not (eqb n size) ≡ false → (m ≡ size) × (n ≡ size)
right_sizes size m n e =
    let p = neither (not (eqb m size)) (not (eqb n size)) e in
    (eqb-true m size (not-false (eqb m size) p.0), eqb-true n size (not-false (eqb n size) p.1))

-- where nothing is refused the memory and the frame are 9 strips long
pub long : (c : Sheet) (r : Registers) (m n : ℕ) → refusal c r m n ≡ 0 → (m ≡ 9 * c.width) × (n ≡ 9 * c.width)
unfolding refusal
long c r m n e =
    let t = not (eqb m (9 * c.width)) || not (eqb n (9 * c.width)) in
    right_sizes (9 * c.width) m n ((past t wrong_size _ 0 (λ z. omega arith)).0 e).0
