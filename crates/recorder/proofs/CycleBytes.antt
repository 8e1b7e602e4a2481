-- A list of cycles and its bytes: each is found again in the other.
-- Assumes nothing.
use Prim.Native.Nat.{ℕ, suc, ◌*◌, ◌/◌, ◌<◌}
use mathlib.Core.Path.{◌≡◌, refl, sym, ap, subst, ◌∙◌}
use mathlib.Core.Bool.{true, false, ◌||◌}
use mathlib.Core.List.{List, [], ◌∷◌}
use native.Mathlib.Omega.{arith}
use borrow.Author.Tests.{lt-ltb, ltb-true}
use lib.Dec.{T}
use lib.ListN.{length, get_or, take}
use Rattle.controller.specs.Cycle.{malformed}
use Rattle.controller.specs.Run.{BusCycle}
use Rattle.bus.specs.Cycles.{cycles_of}
use Rattle.bus.proofs.Playing.{few, cycles_next}
use Rattle.paper.proofs.Cases.{split}
use Rattle.paper.proofs.Either.{neither}
use Rattle.recorder.specs.Cycles.{good_cycle, any_wrong, bytes_of}

-- ---- bytes

pub bytes_none : bytes_of [] ≡ []
unfolding bytes_of
bytes_none = refl

pub bytes_next : (x : BusCycle) (xs : List BusCycle) → bytes_of (x ∷ xs) ≡ x.0 ∷ x.1 ∷ bytes_of xs
unfolding bytes_of
bytes_next x xs = refl

pub bytes_length : (xs : List BusCycle) → length (bytes_of xs) ≡ 2 * length xs
unfolding bytes_of
bytes_length [] = refl
bytes_length (x ∷ xs) = let e = bytes_length xs in omega arith

-- the bytes of cycles are those cycles
pub bytes_cycles : (xs : List BusCycle) → cycles_of (bytes_of xs) ≡ xs
bytes_cycles [] = ap cycles_of bytes_none ∙ few [] (omega arith)
bytes_cycles (x ∷ xs) = ap cycles_of (bytes_next x xs) ∙ cycles_next x.0 x.1 (bytes_of xs) ∙ ap (λ (l : List BusCycle). x ∷ l) (bytes_cycles xs)

-- the cycles of bytes are those bytes, but for a last odd one
pub cycles_bytes : (bytes : List ℕ) → bytes_of (cycles_of bytes) ≡ take (2 * (length bytes / 2)) bytes
cycles_bytes [] = ap bytes_of (few [] (omega arith)) ∙ bytes_none
cycles_bytes (kind ∷ []) = ap bytes_of (few (kind ∷ []) (omega arith)) ∙ bytes_none
cycles_bytes (kind ∷ value ∷ rest) =
    let e : 2 * (suc (suc (length rest)) / 2) ≡ suc (suc (2 * (length rest / 2))) = omega arith in
    ap bytes_of (cycles_next kind value rest) ∙ bytes_next (kind, value) (cycles_of rest)
    ∙ rw e (ap (λ (l : List ℕ). kind ∷ value ∷ l) (cycles_bytes rest))

-- ---- a wrong one among them

pub wrong_none : any_wrong [] ≡ false
unfolding any_wrong
wrong_none = refl

pub wrong_next : (x : BusCycle) (xs : List BusCycle) → any_wrong (x ∷ xs) ≡ (malformed x.0 x.1 || any_wrong xs)
unfolding any_wrong
wrong_next x xs = refl

-- ---- good cycles

-- a good cycle, taken apart: no cycle that number 9 would refuse, and a byte
pub record Formed (x : BusCycle) : Type 0 where
  pub cycle : malformed x.0 x.1 ≡ false
  pub byte : x.1 < 256

pub good_formed : (x : BusCycle) → good_cycle x ≡ true → Formed x
unfolding good_cycle
good_formed x e = split (malformed x.0 x.1)
    (λ m. absurd (subst T (rw m at (sym e)) tt))
    (λ m. record { cycle = m; byte = ltb-true x.1 256 (rw m at e) })

pub formed_good : (x : BusCycle) → Formed x → good_cycle x ≡ true
unfolding good_cycle
formed_good x f = rw (f.cycle, lt-ltb x.1 256 f.byte)

pub data AllGood : List BusCycle → Type 0 where
  no_more : AllGood []
  one_more : {x : BusCycle} {xs : List BusCycle} → good_cycle x ≡ true → AllGood xs → AllGood (x ∷ xs)

-- every number of a list is a byte
abbrev pub Bytes : List ℕ → Type 0
Bytes l = (i : ℕ) → get_or l i 0 < 256

-- cycles of bytes, none of which number 9 would refuse, are good
pub cycles_good : (cycles : List ℕ) → Bytes cycles → any_wrong (cycles_of cycles) ≡ false → AllGood (cycles_of cycles)
cycles_good [] b e = rw (few [] (omega arith)) no_more
cycles_good (k ∷ []) b e = rw (few (k ∷ []) (omega arith)) no_more
cycles_good (k ∷ v ∷ rest) b e =
    let f = sym (wrong_next (k, v) (cycles_of rest)) ∙ sym (ap any_wrong (cycles_next k v rest)) ∙ e in
    let n = neither (malformed k v) (any_wrong (cycles_of rest)) f in
    rw (cycles_next k v rest)
    (one_more (formed_good (k, v) (record { cycle = n.0; byte = b 1 })) (cycles_good rest (λ i. b (suc (suc i))) n.1))

-- and good ones have none that it would
pub good_right : (xs : List BusCycle) → AllGood xs → any_wrong xs ≡ false
good_right [] g = wrong_none
good_right (x ∷ xs) (one_more g gs) = wrong_next x xs ∙ rw ((good_formed x g).cycle, good_right xs gs) refl
