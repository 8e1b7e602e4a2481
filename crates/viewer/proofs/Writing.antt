-- Room for the text of any job always gets it.
-- Assumes nothing.
use Prim.Native.Nat.{ℕ, ◌+◌, ◌≤◌}
use mathlib.Core.Path.{◌≡◌, sym, ap, ◌∙◌}
use mathlib.Core.List.{List}
use native.Mathlib.Omega.{arith}
use lib.ListN.{length, take, drop, length-append}
use lib.Seq.{take_at}
use Rattle.std.specs.Prelude.{Result, Ok}
use Rattle.paper.specs.Told.{given}
use Rattle.paper.specs.declared.refusal.Refusal.{Refusal}
use Rattle.jobs.specs.Header.{header_of}
use Rattle.jobs.specs.declared.header.Job.{Job}
use Rattle.recorder.specs.Text.{cycles_text, IsWrittenText}
use Rattle.recorder.specs.Job.{file_cycles}
use Rattle.recorder.proofs.JobFile.{cycle_part}
use Rattle.recorder.proofs.PromisedText.{file_text}

module _ (file : List ℕ) (j : Job) (out : List ℕ) {a : Result ℕ Refusal} {left : List ℕ} (e : header_of file ≡ given j)
    (f : IsWrittenText (cycle_part file j) out a left) (room : 80000 ≤ length out) where
  abbrev text : List ℕ
  text = cycles_text (file_cycles file j)

  pub text_given : a ≡ Ok (length text)
  text_given = (file_text file j out a left e f room).0

  pub text_whole : {n : ℕ} → a ≡ Ok n → (n ≤ length left) × (take n left ≡ text)
  text_whole {n} g =
      let p = file_text file j out a left e f room in
      let same : Ok n ≡ Ok (length text) = sym g ∙ p.0 in
      let long : n ≡ length text = cc in
      let all : length left ≡ length text + length (drop (length text) out) = ap length p.1 ∙ length-append text (drop (length text) out) in
      (omega arith, ap (take n) p.1 ∙ take_at text _ n (sym long))
