-- write_text is refused with 6, then 5, each exactly when its words hold, and with nothing else; an output that is long enough gets its
-- text, and 80,000 bytes always are; and what it writes is read as what it was given.
-- Assumes nothing.
use Prim.Native.Nat.{ℕ, ◌≤◌, ◌<◌}
use mathlib.Core.Path.{◌≡◌, refl, sym, ap, ◌∙◌}
use mathlib.Core.Logic.{◌⊎◌, inl, inr, ⊎_elim}
use mathlib.Core.Bool.{Bool, false, cond, ◌||◌}
use mathlib.Core.List.{List}
use native.Mathlib.Omega.{arith}
use borrow.Author.Tests.{le-ltb}
use lib.Dec.{ltb}
use lib.ListN.{length, take, drop}
use lib.Seq.{take_at}
use Rattle.std.specs.Prelude.{Result, Ok, Err}
use Rattle.paper.specs.Over.{over}
use Rattle.paper.specs.Refusal.{number_of}
use Rattle.paper.specs.Told.{given}
use Rattle.paper.specs.declared.refusal.Refusal.{Refusal}
use Rattle.paper.specs.declared.refusal.Refusal.TheVariants.{OutsideField, ShortOutput}
use Rattle.paper.proofs.Refusing.{err_exactly}
use Rattle.paper.proofs.Telling.{given_one, number_one, number_some}
use Rattle.paper.proofs.Exactly.{Exactly, then, both, below, not_below, or_exactly, nor_exactly, joined, same_number, here, past, nowhere, among}
use Rattle.bus.specs.Cycles.{cycles_of}
use Rattle.jobs.specs.Header.{header_of}
use Rattle.jobs.specs.declared.header.Job.{Job}
use Rattle.jobs.proofs.Scan.{header_holds}
use Rattle.recorder.specs.Cycles.{any_wrong}
use Rattle.recorder.specs.Job.{file_cycles}
use Rattle.recorder.specs.Text.{cycles_text, text_refusal, IsWrittenText, cycles_in, bad_text}
use Rattle.recorder.proofs.CycleBytes.{Bytes, cycles_good}
use Rattle.recorder.proofs.JobFile.{cycle_part, part_cycles, file_right, from_count}
use Rattle.recorder.proofs.Meaning.{text_most_lem, text_again, has_good}
use Rattle.recorder.proofs.Promised.{written_number, written_all, WrongAmong, wrong_yes, wrong_no}

module _ (cycles out : List ℕ) where
  abbrev text : List ℕ
  text = cycles_text (cycles_of cycles)

  -- more than 16,000 cycles, or one that number 9 would refuse; and neither
  abbrev pub OutsideText : Type 0
  OutsideText = (16000 < length (cycles_of cycles)) ⊎ WrongAmong (cycles_of cycles)

  abbrev pub InsideText : Type 0
  InsideText = (length (cycles_of cycles) ≤ 16000) × (WrongAmong (cycles_of cycles) → ⊥)

  abbrev outside : Bool
  outside = ltb 16000 (length (cycles_of cycles)) || any_wrong (cycles_of cycles)

  abbrev brief : Bool
  brief = ltb (length out) (length text)

  number_is : text_refusal (cycles_of cycles) out ≡ cond outside 6 (cond brief 5 0)
  unfolding text_refusal
  number_is = joined (ltb 16000 (length (cycles_of cycles))) (any_wrong (cycles_of cycles)) 6 (cond brief 5 0)

  inside : Exactly (outside ≡ false) InsideText
  inside = nor_exactly (ltb 16000 (length (cycles_of cycles))) (any_wrong (cycles_of cycles)) (not_below _) (wrong_no (cycles_of cycles))

  module _ (a : Result ℕ Refusal) (left : List ℕ) (f : IsWrittenText cycles out a left) where
    numbered : (r : Refusal) → Exactly (a ≡ Err r) (cond outside 6 (cond brief 5 0) ≡ number_of r)
    numbered r = then (err_exactly a r) (same_number (written_number f ∙ number_is))

    pub text_6 : Exactly (a ≡ Err OutsideField) OutsideText
    text_6 =
        then (numbered OutsideField)
        (then (here outside 6 (cond brief 5 0) (nowhere brief 5 0 6 (λ e. omega arith) (λ e. omega arith)))
        (or_exactly (ltb 16000 (length (cycles_of cycles))) (any_wrong (cycles_of cycles)) (below _) (wrong_yes (cycles_of cycles))))

    pub text_5 : Exactly (a ≡ Err ShortOutput) (InsideText × (length out < length text))
    text_5 =
        then (numbered ShortOutput)
        (then (past outside 6 (cond brief 5 0) 5 (λ e. omega arith)) (both inside (then (here brief 5 0 (λ e. omega arith)) (below (length text)))))

    -- a good list and an output that is long enough: the text
    pub text_long : InsideText → length text ≤ length out → (a ≡ Ok (length text)) × (left ≡ over text out)
    text_long i h = written_all f (number_is ∙ rw (inside.1 i, le-ltb _ _ h))

    pub text_always : InsideText → 80000 ≤ length out → (a ≡ Ok (length text)) × (left ≡ over text out)
    text_always i h = text_long i (omega (arith, text_most_lem (cycles_of cycles), i.0))

  pub text_only : (r : Refusal) (left : List ℕ) → IsWrittenText cycles out (Err r) left → (r ≡ OutsideField) ⊎ (r ≡ ShortOutput)
  text_only r left f = ⊎_elim
      (λ e. inl (number_one r OutsideField e))
      (λ e. ⊎_elim (λ s. inr (number_one r ShortOutput s)) (λ z. absurd (number_some r z)) (among brief 5 0 (number_of r) e))
      (among outside 6 (cond brief 5 0) (number_of r) (written_number f ∙ number_is))

  -- what it writes is no bad text, and is read as the cycles that it was given
  pub text_read : (n : ℕ) (left : List ℕ) → Bytes cycles → IsWrittenText cycles out (Ok n) left
      → (bad_text (take n left) ≡ false) × (cycles_in (take n left) ≡ cycles_of cycles)
  text_read n left b f =
      let e : text_refusal (cycles_of cycles) out ≡ 0 = sym (written_number f) in
      let right = (inside.0 ((past outside 6 (cond brief 5 0) 0 (λ z. omega arith)).0 (sym number_is ∙ e)).0).1 in
      let g = cycles_good cycles b ((wrong_no (cycles_of cycles)).1 right) in
      let w = written_all f e in
      let m : n ≡ length text = given_one (rw e at f.tells) in
      let whole : take n left ≡ text = ap (take n) w.1 ∙ take_at text (drop (length text) out) n (sym m) in
      (has_good (take n left) (cycles_of cycles) g (sym whole), ap cycles_in whole ∙ text_again (cycles_of cycles) g)

-- the text of a job's cycles: a file that the reader accepts, and 80,000 bytes, always get it
pub file_text : (file : List ℕ) (j : Job) (out : List ℕ) (a : Result ℕ Refusal) (left : List ℕ) → header_of file ≡ given j
    → IsWrittenText (cycle_part file j) out a left → 80000 ≤ length out
    → (a ≡ Ok (length (cycles_text (file_cycles file j)))) × (left ≡ over (cycles_text (file_cycles file j)) out)
file_text file j out a left e f h =
    let p = part_cycles file j e in
    let right : WrongAmong (cycles_of (cycle_part file j)) → ⊥ = (wrong_no (cycles_of (cycle_part file j))).0 (rw p (file_right file j e)) in
    let few : length (cycles_of (cycle_part file j)) ≤ 16000 = rw (p, from_count file 0 j.cycles) (header_holds file {a = Ok j} (record { tells = sym e }) refl).few in
    rw p at (text_always (cycle_part file j) out a left f (few, right) h)
