-- Writing a text a cycle at a time, and bytes a byte at a time: what is left, put now, gives the whole.
-- Assumes nothing.
use Prim.Native.Nat.{ℕ, suc, ◌+◌, ◌≤◌, ◌<◌}
use mathlib.Core.Path.{◌≡◌, refl, sym, ap, ◌∙◌}
use mathlib.Core.List.{List, ◌++◌}
use native.Mathlib.Omega.{arith}
use lib.ListN.{length, get_or, drop, set}
use lib.Seq.{sets, drop-cons, drop-length}
use Rattle.bus.specs.Cycles.{cycles_of}
use Rattle.bus.proofs.Playing.{few}
use Rattle.jobs.specs.Output.{Put, Remains}
use Rattle.jobs.proofs.Playing.{remains_put}
use Rattle.recorder.specs.Line.{cycle_text}
use Rattle.recorder.proofs.Chunked.{chunk_next}
use Rattle.recorder.specs.Text.{cycles_text}
use Rattle.recorder.proofs.Reading.{text_none, text_next}

-- ---- a line more

pub lines_turn : (chunk rest : List ℕ) {all w o₀ o o' : List ℕ} {at at' : ℕ} → all ≡ chunk ++ rest → length chunk ≡ 2
    → Remains w o₀ o at (cycles_text (cycles_of all)) → Put o at (cycle_text (get_or chunk 0 0, get_or chunk 1 0)) o' at' 5
    → Remains w o₀ o' at' (cycles_text (cycles_of rest))
lines_turn chunk rest e n r p = remains_put (rw (ap (λ l. cycles_text (cycles_of l)) e ∙ ap cycles_text (chunk_next chunk rest n) ∙ text_next _ _) at r) p

pub lines_end : (rest : List ℕ) {w o₀ o : List ℕ} {at k : ℕ} → length rest < 2 → Remains w o₀ o at (cycles_text (cycles_of rest)) → at ≤ k → Put o₀ 0 w o at k
lines_end rest h r b =
    let z = rw (ap cycles_text (few rest (omega arith)) ∙ text_none) at r in
    record { bytes = sym z.bytes; place = omega (arith, z.count); near = omega arith }

-- ---- a byte more

module _ (from : List ℕ) (at i : ℕ) where
  pub all_next : (o : List ℕ) → i < length from → sets o (at + i) (drop i from) ≡ sets (set o (at + i) (get_or from i 0)) (at + (i + 1)) (drop (i + 1) from)
  all_next o h =
      let e : at + (i + 1) ≡ suc (at + i) = omega arith in
      let f : i + 1 ≡ suc i = omega arith in
      ap (sets o (at + i)) (drop-cons from i 0 h) ∙ rw (e, f) refl

  pub all_end : {o₀ o : List ℕ} → i ≡ length from → sets o₀ at from ≡ sets o (at + i) (drop i from) → Put o₀ at from o (at + i) (length from)
  all_end e q = record {
    bytes = sym (q ∙ rw (e, drop-length from) refl);
    place = omega arith;
    near = omega arith;
  }
