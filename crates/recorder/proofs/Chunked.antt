-- The chunks of two of a list of bytes are its cycles, and a wrong one among them is a wrong cycle.
-- Assumes nothing.
use Prim.Native.Nat.{ℕ}
use mathlib.Core.Path.{◌≡◌, refl, sym, ap, ◌∙◌}
use mathlib.Core.Bool.{◌||◌}
use mathlib.Core.List.{List, [], ◌∷◌, ◌++◌}
use native.Mathlib.Omega.{arith}
use lib.ListN.{length, get_or, length-append}
use denote.Ref.{Bor}
use Rattle.std.specs.List.{list_any}
use Rattle.std.specs.Iterator.{AlwaysYields}
use Rattle.std.specs.Slice.Iter.{chunks_exact_rest, chunks_exact_size, chunks_exact_steps}
use Rattle.std.proofs.lemmas.Iterator.{YieldsList}
use Rattle.controller.specs.Cycle.{malformed}
use Rattle.controller.specs.Run.{BusCycle}
use Rattle.bus.specs.Cycles.{cycles_of}
use Rattle.recorder.specs.Cycles.{any_wrong}

-- a chunk as a cycle
abbrev pair : List ℕ → BusCycle
pair l = (get_or l 0 0, get_or l 1 0)

abbrev pub cycle : Bor (List ℕ) → BusCycle
cycle x = pair x.now

-- it comes first
pub chunk_next : (chunk rest : List ℕ) → length chunk ≡ 2 → cycles_of (chunk ++ rest) ≡ pair chunk ∷ cycles_of rest
unfolding cycles_of
chunk_next [] rest n = absurd (omega arith)
chunk_next (a ∷ []) rest n = absurd (omega arith)
chunk_next (a ∷ b ∷ []) rest n = refl
chunk_next (a ∷ b ∷ c ∷ l) rest n = absurd (omega arith)

-- the first two bytes, and the rest
cut : (l r : List ℕ) {kind value : ℕ} {rest : List ℕ} → length l ≡ 2 → kind ∷ value ∷ rest ≡ l ++ r
    → (◌≡◌ {A = BusCycle} (pair l) (kind, value)) × (r ≡ rest)
cut [] r n e = absurd (omega arith)
cut (a ∷ []) r n e = absurd (omega arith)
cut (a ∷ b ∷ []) r n e = (cc, cc)
cut (a ∷ b ∷ c ∷ l) r n e = absurd (omega arith)

yields : (bytes : List ℕ) (s : _) → chunks_exact_rest s ≡ bytes → chunks_exact_size s ≡ 2 → AlwaysYields chunks_exact_steps cycle s (cycles_of bytes)
unfolding cycles_of
yields [] s e n = λ x j q. omega (arith, ap length e, ap length q.1.0, length-append x.now (chunks_exact_rest j), q.1.1)
yields (a ∷ []) s e n = λ x j q. omega (arith, ap length e, ap length q.1.0, length-append x.now (chunks_exact_rest j), q.1.1)
yields (kind ∷ value ∷ rest) s e n = (
  λ j q. omega (arith, ap length e, q.1.0),
  λ x j q.
      let f = cut x.now (chunks_exact_rest j) (q.1.1 ∙ n) (sym e ∙ q.1.0) in
      (f.0, yields rest j f.1 (q.0 ∙ n)),
)

pub cycles_chunked : (bytes : List ℕ) {s : _} → chunks_exact_rest s ≡ bytes → chunks_exact_size s ≡ 2 → YieldsList chunks_exact_steps cycle s (cycles_of bytes)
cycles_chunked bytes e n = record { runs = yields bytes _ e n }

pub wrong_listed : (xs : List BusCycle) → list_any (λ x. malformed x.0 x.1) xs ≡ any_wrong xs
unfolding any_wrong
wrong_listed [] = refl
wrong_listed (x ∷ xs) = ap (λ b. malformed x.0 x.1 || b) (wrong_listed xs)
