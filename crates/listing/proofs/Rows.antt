-- A row begins with one byte, goes on with bytes of the same class, and ends before the first of another, where the next begins.
-- Assumes nothing.
use Prim.Native.Nat.{ℕ, ◌+◌, ◌-◌, ◌≤◌, ◌<◌}
use mathlib.Core.Path.{◌≡◌, ◌∙◌, ap, sym}
use mathlib.Core.Logic.{◌≢◌}
use native.Mathlib.Omega.{arith}
use Rattle.std.specs.Prelude.{Option, Some, None}
use Rattle.std.specs.Option.{MatchOption, unwrap_or}
use Rattle.paper.proofs.Cases.{less}
use Rattle.instructions.specs.Read.{class_of}
use Rattle.listing.specs.Row.{Begins, Alike, IsRow}

-- every byte behind the first, up to a last one, is of its class
abbrev pub On : ℕ → ℕ → Type 0
On first last = (b : ℕ) → first ≤ b → b < last → class_of (b + 1) ≡ class_of first

alike : (first last : ℕ) → first ≤ last → On first last → Alike first last
alike first last h f =
    record {
      rising = h;
      same = λ b low high.
          less first b
          (λ l. let e : b ≡ b - 1 + 1 = omega arith in ap class_of e ∙ f (b - 1) (omega arith) (omega arith))
          (λ l. ap class_of (omega arith));
    }

-- the last byte before one of another class, or else the last byte of all
pub row_found : (first : ℕ) (found : Option ℕ) → Begins first → first ≤ 255
    → MatchOption found (On first 255) (λ b. (first ≤ b) × (b < 255) × (class_of (b + 1) ≢ class_of first) × On first b) → IsRow first (unwrap_or found 255)
row_found first None b h f = record { begins = b; alike = alike first 255 h f; ends = λ l. absurd (omega arith) }
row_found first (Some last) b h f = record { begins = b; alike = alike first last f.0 f.3; ends = λ l. f.2 }

-- the first byte of all begins a row
pub first_begins : Begins 0
first_begins b e = absurd (omega arith)

-- and so does the byte behind a row
pub next_begins : {first last : ℕ} → IsRow first last → last + 1 < 256 → Begins (last + 1)
next_begins {first} {last} r h b e same =
    let i : b ≡ last = omega arith in
    let l : class_of b ≡ class_of first = r.alike.same b (omega (arith, r.alike.rising)) (omega arith) in
    r.ends (omega arith) (sym same ∙ l)
