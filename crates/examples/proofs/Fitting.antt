-- Cycles that are read are 16,000 at most, and no more bytes than their output has.
-- Assumes nothing.
use Prim.Native.Nat.{ℕ, ◌*◌, ◌≤◌}
use mathlib.Core.Path.{◌≡◌}
use mathlib.Core.List.{List}
use native.Mathlib.Omega.{arith}
use lib.ListN.{length}
use Rattle.std.specs.Prelude.{Result, Ok}
use Rattle.recorder.specs.Text.{IsReadText}
use Rattle.recorder.specs.declared.text.Unread.{Unread}
use Rattle.recorder.proofs.PromisedLines.{lines_0}

pub lines_fit : {text out left : List ℕ} {a : Result ℕ Unread} {n : ℕ} → IsReadText text out a left → a ≡ Ok n → (n ≤ 16000) × (2 * n ≤ length out)
lines_fit {text} {out} {left} {a} {n} f e = let o = lines_0 text out n left (rw e at f) in (omega (arith, o.0, o.1.1.0), omega (arith, o.0, o.1.1.1))
