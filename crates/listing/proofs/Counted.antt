-- The assigned bytes are counted one by one, each by its class.
-- Assumes nothing.
use Prim.Native.Nat.{ℕ, ◌+◌}
use mathlib.Core.Path.{◌≡◌, ◌∙◌, ap}
use mathlib.Core.Logic.{◌≢◌}
use mathlib.Core.Bool.{cond}
use native.Mathlib.Omega.{arith}
use native.Mathlib.Numerals.{add-one}
use Rattle.paper.proofs.Cases.{split}
use Rattle.instructions.specs.Read.{assigned}
use Rattle.instructions.specs.Class.{IsClass}
use Rattle.instructions.proofs.Pinned.{how_many, assigned_161}
use Rattle.instructions.proofs.Unique.{class_0}

-- 1 for an assigned byte, else 0
abbrev one : ℕ → ℕ
one b = cond (assigned b) 1 0

-- class 0 counts for nothing
pub none_counted : {b r : ℕ} → IsClass b r → r ≡ 0 → 0 ≡ one b
none_counted f e = rw ((class_0 f).0 e)

-- any other class for one
pub one_counted : {b r : ℕ} → IsClass b r → r ≢ 0 → 1 ≡ one b
one_counted {b} f ne = split (assigned b) (λ t. rw t) (λ t. absurd (ne ((class_0 f).1 t)))

-- one byte more
pub more : (n b r : ℕ) → n ≡ how_many assigned b → r ≡ one b → n + r ≡ how_many assigned (b + 1)
more n b r e f = simp add-one (omega (arith, e, f))

-- all bytes: "These are 161 bytes"
pub all : (n b : ℕ) → n ≡ how_many assigned b → b ≡ 256 → n ≡ 161
all n b e f = e ∙ ap (how_many assigned) f ∙ assigned_161
