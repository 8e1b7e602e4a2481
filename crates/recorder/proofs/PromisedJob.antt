-- write_job is refused with 1, then 6, then 5, each exactly when its words hold, and with nothing else; an output that is long enough gets
-- its file, and 34,384 bytes always are; what it writes is read as what it was given; and from the parts of a file that the reader
-- accepts it writes that file.
-- Assumes nothing.
use Prim.Native.Nat.{ℕ, ◌+◌, ◌*◌, ◌≤◌, ◌<◌}
use mathlib.Core.Path.{◌≡◌, sym, ap, subst, ◌∙◌}
use mathlib.Core.Logic.{◌≢◌, ◌⊎◌, inl, inr, ⊎_elim}
use mathlib.Core.Bool.{Bool, true, false, cond, ◌||◌}
use mathlib.Core.List.{List}
use native.Mathlib.Omega.{arith}
use borrow.Author.Tests.{le-ltb}
use lib.Dec.{ltb}
use lib.ListN.{length, take, drop}
use lib.Seq.{take_at}
use Rattle.std.specs.Prelude.{Result, Ok, Err}
use Rattle.paper.specs.Over.{over}
use Rattle.paper.specs.Refusal.{number_of}
use Rattle.paper.specs.Told.{given}
use Rattle.paper.specs.declared.refusal.Refusal.{Refusal}
use Rattle.paper.specs.declared.refusal.Refusal.TheVariants.{WrongSize, OutsideField, ShortOutput}
use Rattle.paper.proofs.Refusing.{err_exactly}
use Rattle.paper.proofs.Telling.{given_one, number_one, number_some}
use Rattle.paper.proofs.Exactly.{Exactly, then, both, below, not_below, or_exactly, nor_exactly, joined, same_number, here}
use Rattle.paper.proofs.Threefold.{threefold, threefold_1, threefold_6, threefold_5, threefold_0, threefold_only}
use Rattle.instructions.specs.declared.added.CommandSet.{CommandSet}
use Rattle.bus.specs.Cycles.{cycles_of}
use Rattle.jobs.specs.Header.{header_of}
use Rattle.jobs.specs.declared.header.Job.{Job}
use Rattle.recorder.specs.Cycles.{any_wrong}
use Rattle.recorder.specs.Job.{most_pictures, job_bytes, wrong_pictures, job_refusal, IsWrittenJob, file_pictures}
use Rattle.recorder.proofs.CycleBytes.{Bytes}
use Rattle.recorder.proofs.Answers.{job_length}
use Rattle.recorder.proofs.JobFile.{cycle_part, part_cycles, most_two, JobRead, job_read, job_again}
use Rattle.recorder.proofs.Promised.{written_number, written_all, WrongAmong, wrong_yes, wrong_no, size_no, size_yes}

module _ (set : CommandSet) (cycles : List ℕ) (p : ℕ) (pictures out : List ℕ) where
  abbrev file : List ℕ
  file = job_bytes set (cycles_of cycles) p pictures

  -- 8 + 2N + 1,188P bytes
  abbrev needed : ℕ
  needed = 8 + 2 * length (cycles_of cycles) + length pictures

  -- more than 16,000 cycles, more pictures than the set has (two, in the new one one), or a cycle that number 9 would refuse; and none
  -- of these
  abbrev pub OutsideJob : Type 0
  OutsideJob = (16000 < length (cycles_of cycles)) ⊎ ((most_pictures set < p) ⊎ WrongAmong (cycles_of cycles))

  abbrev pub InsideJob : Type 0
  InsideJob = (length (cycles_of cycles) ≤ 16000) × ((p ≤ most_pictures set) × (WrongAmong (cycles_of cycles) → ⊥))

  abbrev misfit : Bool
  misfit = wrong_pictures (length pictures) p

  abbrev many : Bool
  many = ltb 16000 (length (cycles_of cycles))

  abbrev outside : Bool
  outside = many || (ltb (most_pictures set) p || any_wrong (cycles_of cycles))

  abbrev brief : Bool
  brief = ltb (length out) (length file)

  number_is : job_refusal set (cycles_of cycles) p pictures out ≡ threefold misfit outside brief
  unfolding job_refusal
  number_is =
      ap (λ (z : ℕ). cond misfit 1 (cond many 6 z)) (joined (ltb (most_pictures set) p) (any_wrong (cycles_of cycles)) 6 (cond brief 5 0))
      ∙ ap (λ (z : ℕ). cond misfit 1 z) (joined many (ltb (most_pictures set) p || any_wrong (cycles_of cycles)) 6 (cond brief 5 0))

  inside : Exactly (outside ≡ false) InsideJob
  inside = nor_exactly many _ (not_below _) (nor_exactly (ltb (most_pictures set) p) _ (not_below p) (wrong_no (cycles_of cycles)))

  module _ (a : Result ℕ Refusal) (left : List ℕ) (f : IsWrittenJob set cycles p pictures out a left) where
    numbered : (r : Refusal) → Exactly (a ≡ Err r) (threefold misfit outside brief ≡ number_of r)
    numbered r = then (err_exactly a r) (same_number (written_number f ∙ number_is))

    pub job_1 : Exactly (a ≡ Err WrongSize) (length pictures ≢ 1188 * p)
    job_1 = then (numbered WrongSize) (then (threefold_1 misfit outside brief) (size_yes (length pictures) p))

    pub job_6 : Exactly (a ≡ Err OutsideField) ((length pictures ≡ 1188 * p) × OutsideJob)
    job_6 =
        then (numbered OutsideField)
        (then (threefold_6 misfit outside brief)
        (both (size_no (length pictures) p)
        (or_exactly many _ (below _) (or_exactly (ltb (most_pictures set) p) _ (below p) (wrong_yes (cycles_of cycles))))))

    pub job_5 : Exactly (a ≡ Err ShortOutput) ((length pictures ≡ 1188 * p) × (InsideJob × (length out < needed)))
    job_5 =
        then (numbered ShortOutput)
        (then (threefold_5 misfit outside brief)
        (both (size_no (length pictures) p)
        (both inside
        (subst (λ (m : ℕ). Exactly (brief ≡ true) (length out < m)) (job_length set (cycles_of cycles) p pictures) (below (length file))))))

    -- pictures that fit, good cycles and an output that is long enough: the file
    pub job_long : length pictures ≡ 1188 * p → InsideJob → needed ≤ length out → (a ≡ Ok (length file)) × (left ≡ over file out)
    job_long s i h =
        let g : length file ≤ length out = rw (job_length set (cycles_of cycles) p pictures) h in
        written_all f (number_is ∙ rw ((size_no (length pictures) p).1 s, inside.1 i, le-ltb _ _ g))

    pub job_always : length pictures ≡ 1188 * p → InsideJob → 34384 ≤ length out → (a ≡ Ok (length file)) × (left ≡ over file out)
    job_always s i h = job_long s i (omega (arith, i.0, i.1.0, most_two set))

  pub job_only : (r : Refusal) (left : List ℕ) → IsWrittenJob set cycles p pictures out (Err r) left → (r ≡ WrongSize) ⊎ ((r ≡ OutsideField) ⊎ (r ≡ ShortOutput))
  job_only r left f = ⊎_elim
      (λ e. inl (number_one r WrongSize e))
      (λ g. inr (⊎_elim (λ e. inl (number_one r OutsideField e)) (λ e. inr (number_one r ShortOutput e)) g))
      (threefold_only misfit outside brief (number_of r) (number_some r) (written_number f ∙ number_is))

  -- the reader accepts what it writes, and finds in it what was given
  pub job_back : (n : ℕ) (left : List ℕ) → IsWrittenJob set cycles p pictures out (Ok n) left → JobRead set (cycles_of cycles) p pictures (take n left)
  job_back n left f =
      let e : job_refusal set (cycles_of cycles) p pictures out ≡ 0 = sym (written_number f) in
      let t = (threefold_0 misfit outside brief).0 (sym number_is ∙ e) in
      let i = inside.0 t.1.0 in
      let m : n ≡ length file = given_one (rw e at f.tells) in
      let whole : take n left ≡ file = ap (take n) (written_all f e).1 ∙ take_at file (drop (length file) out) n (sym m) in
      rw whole (job_read set (cycles_of cycles) p pictures ((size_no (length pictures) p).0 t.0) i.0 i.1.0 ((wrong_no (cycles_of cycles)).1 i.1.1))

-- ---- a file that the reader accepts, taken apart and written again

module _ (file : List ℕ) (j : Job) (b : Bytes file) (accepted : header_of file ≡ given j) (out : List ℕ) where
  number_is_5 : job_refusal j.set (cycles_of (cycle_part file j)) j.pictures (file_pictures file j) out ≡ cond (ltb (length out) (length file)) 5 0
  number_is_5 = rw (part_cycles file j accepted) ((job_again file j b accepted).only_short out)

  module _ (a : Result ℕ Refusal) (left : List ℕ) (f : IsWrittenJob j.set (cycle_part file j) j.pictures (file_pictures file j) out a left) where
    -- it is the same file
    pub file_long : length file ≤ length out → (a ≡ Ok (length file)) × (left ≡ over file out)
    file_long h =
        let w = written_all f (number_is_5 ∙ rw (le-ltb _ _ h)) in
        rw (part_cycles file j accepted, (job_again file j b accepted).file_again) at w

    pub file_5 : Exactly (a ≡ Err ShortOutput) (length out < length file)
    file_5 =
        then (err_exactly a ShortOutput)
        (then (same_number (written_number f ∙ number_is_5)) (then (here (ltb (length out) (length file)) 5 0 (λ e. omega arith)) (below (length file))))
