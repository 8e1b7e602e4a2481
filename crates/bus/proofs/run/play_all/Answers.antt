-- `bus::run::play_all` meets its contract: before each cycle, the pairs still to come are the bytes from its place on, and what is left,
-- played and put now, gives the whole.
-- Assumes nothing.
use Prim.Native.Nat.{ℕ, ◌+◌, ◌*◌, ◌/◌, ◌<◌}
use mathlib.Core.Path.{◌≡◌, sym, ap, ◌∙◌}
use mathlib.Core.List.{List, ◌++◌}
use native.Mathlib.Nat.{add-zero}
use native.Mathlib.Omega.{arith}
use lib.ListN.{length, get_or, drop, length-append, length-drop, get_or-append}
use lib.Seq.{drop-drop, drop-append_seam}
use Rattle.std.specs.Iterator.Adapters.{enumerate_count}
use Rattle.std.proofs.lemmas.List.{get_or-drop}
use Rattle.bus.proofs.Playing.{left_next, left_none}
use Rattle.bus.proofs.run.play_all.Goals as goal

-- two bytes ahead of others, at index i: they are that cycle's kind and value
record Pair (bytes two others : List ℕ) (i : ℕ) : Type 0 where
  inside : i < length bytes / 2
  kind : get_or two 0 0 ≡ get_or bytes (2 * i) 0
  value : get_or two 1 0 ≡ get_or bytes (2 * i + 1) 0
  after : others ≡ drop (2 * (i + 1)) bytes

pair : (bytes two others : List ℕ) (i : ℕ) → two ++ others ≡ drop (2 * i) bytes → length two ≡ 2 → Pair bytes two others i
pair bytes two others i e long =
    let n : 2 * (i + 1) ≡ 2 * i + length two = omega arith in
    let at = λ (k : ℕ) (h : k < length two). sym (get_or-append two others 0 k h) ∙ ap (λ (l : List ℕ). get_or l k 0) e ∙ get_or-drop (2 * i) bytes k 0 in
    record {
      inside = omega (arith, length-append two others, length-drop (2 * i) bytes, ap length e);
      kind = rw add-zero at (at 0 (omega arith));
      value = at 1 (omega arith);
      after = rw n (sym (drop-append_seam two others) ∙ ap (drop (length two)) e ∙ drop-drop (length two) (2 * i) bytes);
    }

pub loop-i-preserved : goal.loop-i-preserved
loop-i-preserved g c =
    let v = c.loop-i.invariant in
    let i = enumerate_count c.loop-i.i-iterator in
    let s = c.in-Some.ensures.steps in
    let p = pair c.args.cycles.now c.in-Some.cycle.now _ i (sym s.0.1.0 ∙ v.rest) (s.0.1.1 ∙ v.pairs) in
    let t = rw (p.kind, p.value, s.1) at c.turn_at-after.ensures in
    record {
      pairs = s.0.0 ∙ v.pairs;
      rest = rw s.2 p.after;
      left = rw s.2 (left_next v.left p.inside t);
    }

pub returns : goal.returns
returns g c =
    let v = c.loop-i.invariant in
    let i = enumerate_count c.loop-i.i-iterator in
    let s = c.in-None.ensures.steps in
    left_none v.left (omega (arith, s.0.1.0, v.pairs, ap length v.rest, length-drop (2 * i) c.args.cycles.now))
