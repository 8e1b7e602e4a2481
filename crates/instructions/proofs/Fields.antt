-- What a written field and a written flag say: a value is inside its field exactly if a byte is given, and a flag always is.
-- Assumes nothing.
use Prim.Native.Nat.{ℕ, ◌+◌, ◌≤◌, ◌<◌}
use mathlib.Core.Path.{◌≡◌, refl, ap}
use mathlib.Core.Bool.{Bool, true, false, cond}
use native.Mathlib.Omega.{arith}
use lib.Dec.{ltb}
use borrow.Author.Tests.{lt-ltb, le-ltb, ltb-true}
use Rattle.paper.specs.Refusal.{outside_field}
use Rattle.paper.specs.Told.{given, refused}
use Rattle.paper.proofs.Telling.{given_one}
use Rattle.instructions.specs.Write.{field_of, flag_of}

-- a value inside its field is written as the base and the value
pub field_given : (base count v : ℕ) → v < count → field_of base count v ≡ given (base + v)
unfolding field_of
field_given base count v h = simp (lt-ltb v count h)

-- a value outside it is refused
pub field_refused : (base count v : ℕ) → count ≤ v → field_of base count v ≡ refused outside_field
unfolding field_of
field_refused base count v h = simp (le-ltb v count h)

-- a flag is written as the one byte or the other
pub flag_given : (off on : ℕ) (f : Bool) → flag_of off on f ≡ given (cond f on off)
unfolding flag_of
flag_given off on true = refl
flag_given off on false = refl

inside : (t : Bool) (x : ℕ) → (cond t (given x) (refused outside_field)).number ≡ 0 → t ≡ true
inside true x e = refl
inside false x e = absurd (let z : ◌≡◌ {A = ℕ} 6 0 = e in omega arith)

-- what is not refused is inside its field
pub in_field : (base count v : ℕ) → (field_of base count v).number ≡ 0 → v < count
unfolding field_of
in_field base count v e = ltb-true v count (inside (ltb v count) (base + v) e)

-- what is given as a byte is inside its field, and that byte is the base and the value
pub field_is : (base count v b : ℕ) → field_of base count v ≡ given b → (v < count) × (base + v ≡ b)
field_is base count v b e =
    let h = in_field base count v (ap (λ t. t.number) e) in
    (h, given_one (rw (field_given base count v h) at e))
