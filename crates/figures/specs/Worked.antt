-- Document 01's worked job: its bytes, and the whole output that playing it gives, with order 2's marks. `proofs/WorkedHolds.antt` proves it by computing.
-- Assumes nothing.
use Rattle.std.specs.Prelude.{ℕ, ◌≡◌, List, [], ◌∷◌, ◌++◌, length}
use Prim.Native.Char.{code}
use Prim.Native.String.{String, [] as []ᵗ, ◌∷◌ as ◌∷ᵗ◌}
use Rattle.jobs.specs.Play.{text_of}

-- the bytes of a text (ASCII)
unfoldable pub ascii : String → List ℕ
ascii []ᵗ = []
ascii (c ∷ᵗ text) = code c ∷ ascii text

-- the header, and nine cycles
abbrev pub job : List ℕ
job =
    0x09 ∷ 0x00 ∷ 0x08 ∷ 0x00 ∷ 0x00 ∷ 0x00 ∷ 0x1a ∷ 0x00
    ∷ 0x00 ∷ 0xb2 ∷ 0x00 ∷ 0x10 ∷ 0x00 ∷ 0x05 ∷ 0x01 ∷ 0x7e ∷ 0x01 ∷ 0x81
    ∷ 0x00 ∷ 0x05 ∷ 0x03 ∷ 0x00 ∷ 0x03 ∷ 0x00 ∷ 0x00 ∷ 0x30 ∷ []

pub record Worked : Type 0 where
  pub size : length job ≡ 26
  pub output : text_of job ≡ ascii "r 6 81 s\n" ++ (ascii "r 7 7e f\n" ++ (ascii "x 8 4\n" ++ ascii "end 2 7 0 0 0 0 0 0 0 32\n"))
