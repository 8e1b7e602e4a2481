-- No text is longer than `longest`: a cycle's line has at most 13 bytes, and two lines follow. So an output of that many bytes always
-- gets its text.
-- Assumes nothing.
use Prim.Native.Nat.{ℕ, zero, suc, ◌+◌, ◌*◌, ◌/◌, ◌≤◌, ◌<◌}
use mathlib.Core.Path.{◌≡◌, refl}
use mathlib.Core.Bool.{Bool, true, false, cond}
use mathlib.Core.Option.{Option, none, some}
use mathlib.Core.List.{List, [], ◌∷◌, ◌++◌}
use native.Mathlib.Omega.{arith}
use borrow.Author.Tests.{ltb-false}
use lib.Dec.{ltb, eqb}
use lib.ListN.{length, length-append}
use Rattle.paper.specs.Sheet.{sheet0713}
use Rattle.paper.specs.Sheet.{sensible0713}
use Rattle.paper.proofs.Cases.{split, chosen}
use Rattle.instructions.specs.Added.{is_new}
use Rattle.registers.specs.declared.Beside.{Beside}
use Rattle.registers.specs.declared.Registers.{Registers}
use Rattle.controller.specs.Cycle.{Outcome}
use Rattle.controller.specs.State.{State, step}
use Rattle.streams.specs.Length.{update_length}
use Rattle.jobs.specs.Header.{word_at, cycle_at, picture2, job_of}
use Rattle.jobs.specs.Text.{hex, decimal_up_to, decimal, field, flag, modify_flag, read_line, marked_line, refusal_line, bad_line, line_end, end_line, update_line}
use Rattle.jobs.specs.Play.{byte_line, line_of, answer_at, ending, text_from, power_up, text_by, text_of, longest}
use Rattle.jobs.specs.Output.{flag_fields, ending_most}
use Rattle.jobs.specs.declared.header.Job.{Job}
use Rattle.controller.proofs.Numbered.{Numbered, numbered}
use Rattle.jobs.proofs.Scan.{Way, short, sizes, cycle, good, way, sizes_right}

-- ---- digits

-- 10, 100, ..
abbrev tens : ℕ → ℕ
tens zero = 10
tens (suc d) = 10 * tens d

few_by : (most d n : ℕ) → n < tens d → (b : Bool) → ltb n 10 ≡ b → length (decimal_up_to most n) ≤ suc d
unfolding decimal_up_to
few_by zero d n h b e = omega arith
few_by (suc f) d n h true e = rw e (omega arith)
few_by (suc f) zero n h false e = absurd (omega (arith, ltb-false n 10 e))
few_by (suc f) (suc d) n h false e =
    let less : n / 10 < tens d = omega arith in
    rw (e, length-append) (omega (arith, few_by f d (n / 10) less (ltb (n / 10) 10) refl))

-- a number below 10, 100, .. has at most 1, 2, .. digits
pub few : (d n : ℕ) → n < tens d → length (decimal n) ≤ suc d
unfolding decimal
few d n h = few_by 20 d n h (ltb n 10) refl

up_to : (most n : ℕ) (b : Bool) → ltb n 10 ≡ b → length (decimal_up_to most n) ≤ most
unfolding decimal_up_to
up_to zero n b e = omega arith
up_to (suc f) n true e = rw e (omega arith)
up_to (suc f) n false e = rw (e, length-append) (omega (arith, up_to f (n / 10) (ltb (n / 10) 10) refl))

field_few : (d n : ℕ) → n < tens d → length (field n) ≤ 2 + d
unfolding field
field_few d n h = omega (arith, few d n h)

field_most : (n : ℕ) → length (field n) ≤ 21
unfolding field decimal
field_most n = omega (arith, up_to 20 n (ltb n 10) refl)

-- ---- lines

module _ (i : ℕ) (h : i < 100000) where
  read_line_lem : (b : ℕ) → length (read_line i b) ≤ 13
  unfolding read_line hex
  read_line_lem b = rw length-append (omega (arith, field_few 4 i h))

  refusal_line_lem : (n : ℕ) → n ≤ 9 → length (refusal_line i n) ≤ 13
  unfolding refusal_line
  refusal_line_lem n l = rw (length-append, length-append) (omega (arith, field_few 4 i h, field_few 0 n (omega arith)))

  marked_line_lem : (b : ℕ) (fresh : Bool) → length (marked_line i b fresh) ≤ 13
  unfolding marked_line hex
  marked_line_lem b fresh = rw length-append (omega (arith, field_few 4 i h))

  byte_line_lem : (b : Option ℕ) (fresh : Option Bool) → length (byte_line i b fresh) ≤ 13
  byte_line_lem (some b) (some fresh) = marked_line_lem b fresh
  byte_line_lem (some b) none = read_line_lem b
  byte_line_lem none fresh = omega arith

  pub line_most_lem : (o : Outcome) → Numbered o → length (line_of i o) ≤ 13
  unfolding line_of
  line_most_lem o n = split (eqb o.number 0) (λ t. rw t (byte_line_lem o.byte o.fresh)) (λ t. rw t (refusal_line_lem o.number n.most))

record Most (t : List ℕ) (k : ℕ) : Type 0 where
  bound : length t ≤ k

ended : Most (10 ∷ []) 1
ended = record { bound = omega arith }

-- a number and what follows it
after_field : (n : ℕ) {t : List ℕ} {k : ℕ} → Most t k → Most (field n ++ t) (21 + k)
after_field n {t} {k} h = record { bound = omega (arith, length-append (field n) t, field_most n, h.bound) }

bad_line_lem : (n : ℕ) → length (bad_line n) ≤ 25
unfolding bad_line
bad_line_lem n = omega (arith, (after_field n ended).bound)

update_line_lem : (n : ℕ) → length (update_line n) ≤ 28
unfolding update_line
update_line_lem n = omega (arith, (after_field n ended).bound)

-- with the three numbers or without
end_of : (b : Beside) → Most (line_end b) 64
end_of b =
    chosen (λ (t : List ℕ). Most t 64) (is_new b.set)
    (after_field b.com0 (after_field b.duty (after_field b.inversion ended)))
    (record { bound = omega arith })

end_fields : (r : Registers) → Most (flag_fields r) 211
end_fields r =
    after_field (flag r.shl) (after_field (flag r.adc) (after_field (flag r.reverse) (after_field (flag r.entire)
    (after_field (flag r.on) (after_field (modify_flag r.modify_read) (after_field r.contrast (end_of r.beside)))))))

end_line_lem : (r : Registers) → length (end_line r) ≤ 277
unfolding end_line
end_line_lem r = omega (arith, (after_field r.page (after_field r.column.0 (after_field r.start_line (end_fields r)))).bound)

if_most : (b : Bool) (t : List ℕ) (n : ℕ) → length t ≤ n → length (cond b [] t) ≤ n
if_most true t n h = omega arith
if_most false t n h = h

pub ending_most_lem : (file : List ℕ) (j : Job) (s : State) → length (ending file j s) ≤ ending_most
unfolding ending
ending_most_lem file j s =
    let u = update_line (update_length 132 s.memory (picture2 file j.cycles)) in
    omega (arith, length-append (end_line s.registers) (cond (ltb j.pictures 2) [] u), end_line_lem s.registers, if_most (ltb j.pictures 2) u 28 (update_line_lem _))

-- ---- the whole text

pub text_most_lem : (file : List ℕ) (j : Job) (s : State) (i n : ℕ) → i + n ≤ 100000 → length (text_from file j s i n) ≤ 13 * n + ending_most
unfolding text_from
text_most_lem file j s i zero h = ending_most_lem file j s
text_most_lem file j s i (suc n) h =
    let o = answer_at file i s in
    let s' = step sheet0713 s (cycle_at file i) in
    omega (
      arith,
      length-append (line_of i o) (text_from file j s' (suc i) n),
      line_most_lem i (omega arith) o (numbered sheet0713 sensible0713 s.registers s.memory (cycle_at file i).0 (cycle_at file i).1),
      text_most_lem file j s' (suc i) n (omega arith),
    )

fits_by : (file : List ℕ) → Way file → length (text_of file) ≤ longest
unfolding text_of text_by
fits_by file (short h e) = rw e (omega (arith, bad_line_lem 7))
fits_by file (sizes h s e) = rw e (omega (arith, bad_line_lem 8))
fits_by file (cycle h s c e) = rw e (omega (arith, bad_line_lem 9))
fits_by file (good h s c e) =
    let z = sizes_right _ _ _ _ _ s in
    let n : 0 + word_at file 0 ≤ 100000 = omega (arith, z.few) in
    rw e (omega (arith, z.few, text_most_lem file (job_of file) (power_up file (job_of file)) 0 (word_at file 0) n))

-- the text of any file
pub text_fits : (file : List ℕ) → length (text_of file) ≤ longest
text_fits file = fits_by file (way file)
