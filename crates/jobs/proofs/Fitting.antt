-- Where the output has room for any text, play gives the text and never refuses.
-- Assumes nothing.
use Prim.Native.Nat.{ℕ, ◌≤◌}
use mathlib.Core.Path.{◌≡◌, sym, ap, ◌∙◌}
use mathlib.Core.List.{List}
use native.Mathlib.Omega.{arith}
use lib.ListN.{length, take}
use lib.Seq.{take_at}
use Rattle.std.specs.Prelude.{Result, Ok}
use Rattle.paper.specs.declared.refusal.Refusal.{Refusal}
use Rattle.jobs.specs.Play.{text_of, longest, IsPlayed}
use Rattle.jobs.proofs.Bound.{text_fits}
use Rattle.jobs.proofs.Promised.{played_always}

-- n bytes in front of an output are the text of a file
abbrev pub PlayedOut : List ℕ → List ℕ → ℕ → Type 0
PlayedOut file out n = (n ≡ length (text_of file)) × (n ≤ longest) × (take n out ≡ text_of file)

module _ {file out : List ℕ} {a : Result ℕ Refusal} {left : List ℕ} (f : IsPlayed file out a left) (room : longest ≤ length out) where
  pub given : a ≡ Ok (length (text_of file))
  given = (played_always file out a left f room).0

  pub whole : {n : ℕ} → a ≡ Ok n → PlayedOut file left n
  whole {n} e =
      let p = played_always file out a left f room in
      let same : Ok n ≡ Ok (length (text_of file)) = sym e ∙ p.0 in
      let long : n ≡ length (text_of file) = cc in
      (long, omega (arith, text_fits file), ap (take n) p.1 ∙ take_at (text_of file) _ n (sym long))
