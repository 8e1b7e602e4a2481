-- The picture count field and the two command sets: a job whose field is at most 2 plays as before order 13, one of 256 or 257 in the new
-- set, with three numbers more in its end line and no update, and every other field is refused with 8.
-- Assumes nothing.
use Prim.Native.Nat.{ℕ, zero, suc, ◌+◌, ◌≤◌}
use mathlib.Core.Path.{◌≡◌, ◌∙◌, refl, ap}
use mathlib.Core.Bool.{cond}
use mathlib.Core.List.{List, [], ◌∷◌, ◌++◌, append-nil}
use native.Mathlib.Omega.{arith}
use borrow.Author.Tests.{lt-ltb, le-ltb}
use lib.Dec.{ltb}
use lib.ListN.{length}
use Rattle.paper.specs.Refusal.{wrong_header}
use Rattle.paper.specs.Told.{given, refused}
use Rattle.paper.specs.Sheet.{sheet0713}
use Rattle.instructions.specs.declared.added.CommandSet.{CommandSet}
use Rattle.instructions.specs.declared.added.CommandSet.TheVariants.{Old, New}
use Rattle.registers.specs.declared.Registers.{Registers}
use Rattle.controller.specs.State.{State, powered_up, powered_up_in, step}
use Rattle.controller.proofs.Keeping.{stays_set}
use Rattle.streams.specs.Length.{update_length}
use Rattle.jobs.specs.Header.{word_at, cycle_at, picture2, job_of, header_of}
use Rattle.jobs.specs.Memory.{start_memory}
use Rattle.jobs.specs.Text.{field, newline, flag, modify_flag, three_fields, end_line, update_line}
use Rattle.jobs.specs.Play.{line_of, answer_at, ending, text_from, text_by, text_of}
use Rattle.jobs.specs.declared.header.Job.{Job}
use Rattle.jobs.proofs.Scan.{Counted, sizes_right, Way, short, sizes, cycle, good, way}

-- ---- the end line: ten numbers, and how it ends

-- `end` and its ten numbers, and what stands behind them
abbrev pub ten_then : Registers → List ℕ → List ℕ
ten_then r behind =
    101 ∷ 110 ∷ 100
    ∷ (field r.page ++ (field r.column.0 ++ (field r.start_line ++ (field (flag r.shl)
    ++ (field (flag r.adc) ++ (field (flag r.reverse) ++ (field (flag r.entire) ++ (field (flag r.on)
    ++ (field (modify_flag r.modify_read) ++ (field r.contrast ++ behind))))))))))

pub end_old : (r : Registers) → r.beside.set ≡ Old → end_line r ≡ ten_then r newline
unfolding end_line
end_old r e = rw e refl

pub end_new : (r : Registers) → r.beside.set ≡ New → end_line r ≡ ten_then r (three_fields r.beside)
unfolding end_line
end_new r e = rw e refl

-- ---- a job's text, by its last lines

-- a line for each cycle, and what is told of the chip at the end
abbrev pub text_ending : (State → List ℕ) → List ℕ → State → ℕ → ℕ → List ℕ
text_ending last file s i zero = last s
text_ending last file s i (suc n) = line_of i (answer_at file i s) ++ text_ending last file (step sheet0713 s (cycle_at file i)) (suc i) n

-- no cycle switches the set, so the last lines are those of the set that the job began in
text_by_lem : (last : State → List ℕ) (set : CommandSet) (file : List ℕ) (j : Job) → ((s : State) → s.registers.beside.set ≡ set → ending file j s ≡ last s)
    → (s : State) (i n : ℕ) → s.registers.beside.set ≡ set → text_from file j s i n ≡ text_ending last file s i n
unfolding text_from
text_by_lem last set file j told s i zero e = told s e
text_by_lem last set file j told s i (suc n) e =
    ap (λ (l : List ℕ). line_of i (answer_at file i s) ++ l)
    (text_by_lem last set file j told (step sheet0713 s (cycle_at file i)) (suc i) n (stays_set sheet0713 s.registers s.memory (cycle_at file i).0 (cycle_at file i).1 ∙ e))

-- ---- a job of the old set

-- as before order 13: ten numbers, and with two pictures the update
abbrev pub last_before : List ℕ → Job → State → List ℕ
last_before file j s = ten_then s.registers newline ++ cond (ltb j.pictures 2) [] (update_line (update_length 132 s.memory (picture2 file j.cycles)))

old_ending : (file : List ℕ) (j : Job) (s : State) → s.registers.beside.set ≡ Old → ending file j s ≡ last_before file j s
unfolding ending
old_ending file j s e =
    ap (λ (l : List ℕ). l ++ cond (ltb j.pictures 2) [] (update_line (update_length 132 s.memory (picture2 file j.cycles)))) (end_old s.registers e)

-- a good job whose field is at most 2 has that many pictures, and its text is as before, from power-up in the old set
pub old_job : (file : List ℕ) → header_of file ≡ given (job_of file) → word_at file 4 ≤ 2
    → ((job_of file).set ≡ Old) × ((job_of file).pictures ≡ word_at file 4)
    × (text_of file ≡ text_ending (last_before file (job_of file)) file (powered_up sheet0713 (start_memory file (job_of file))) 0 (job_of file).cycles)
unfolding text_of text_by
old_job file e h =
    let j = job_of file in
    let o : j.set ≡ Old = rw (lt-ltb (word_at file 4) 256 (omega arith)) refl in (
      o,
      omega arith,
      rw e (ap (λ x. text_from file j (powered_up_in sheet0713 x (start_memory file j)) 0 j.cycles) o
          ∙ text_by_lem (last_before file j) Old file j (old_ending file j) (powered_up sheet0713 (start_memory file j)) 0 j.cycles refl),
    )

-- ---- a job of the new set

-- `end` with the three numbers behind the ten, and no update
abbrev pub last_new : State → List ℕ
last_new s = ten_then s.registers (three_fields s.registers.beside)

pub new_ending : (file : List ℕ) (j : Job) → j.pictures ≤ 1 → (s : State) → s.registers.beside.set ≡ New → ending file j s ≡ last_new s
unfolding ending
new_ending file j h s e = rw (lt-ltb j.pictures 2 (omega arith)) (append-nil (end_line s.registers) ∙ end_new s.registers e)

-- a good job whose field is 256 or 257 has no picture or one, and its text ends so, from power-up in the new set
pub new_job : (file : List ℕ) (n : ℕ) → header_of file ≡ given (job_of file) → n ≤ 1 → word_at file 4 ≡ 256 + n
    → ((job_of file).set ≡ New) × ((job_of file).pictures ≡ n)
    × (text_of file ≡ text_ending last_new file (powered_up_in sheet0713 New (start_memory file (job_of file))) 0 (job_of file).cycles)
unfolding text_of text_by
new_job file n e h f =
    let j = job_of file in
    let o : j.set ≡ New = rw (le-ltb (word_at file 4) 256 (omega arith)) refl in
    let p : j.pictures ≡ n = omega arith in (
      o,
      p,
      rw e (ap (λ x. text_from file j (powered_up_in sheet0713 x (start_memory file j)) 0 j.cycles) o
          ∙ text_by_lem last_new New file j (new_ending file j (omega arith)) (powered_up_in sheet0713 New (start_memory file j)) 0 j.cycles refl),
    )

-- ---- every other field

other_by : (file : List ℕ) → Way file → 8 ≤ length file → (Counted (word_at file 4) → ⊥) → header_of file ≡ refused wrong_header
other_by file (short h e) l c = absurd (omega arith)
other_by file (sizes h s e) l c = e
other_by file (cycle h s w e) l c = absurd (c (sizes_right _ _ _ _ _ s).counted)
other_by file (good h s w e) l c = absurd (c (sizes_right _ _ _ _ _ s).counted)

pub other_field : (file : List ℕ) → 8 ≤ length file → (Counted (word_at file 4) → ⊥) → header_of file ≡ refused wrong_header
other_field file l c = other_by file (way file) l c
