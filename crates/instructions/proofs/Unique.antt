-- What the readers, the writers and `class_of` promise fixes their answers: what is told of an answer tells all answers apart, since it
-- has an inverse. And each number is given exactly when its line of document 01's table holds.
-- Assumes nothing.
use Prim.Native.Nat.{ℕ, ◌+◌, ◌≤◌, ◌<◌}
use mathlib.Core.Path.{◌≡◌, ◌∙◌, refl, ap, sym, subst}
use mathlib.Core.Logic.{◌≢◌, ◌⊎◌, inl, inr, ⊎_elim}
use mathlib.Core.Bool.{Bool, true, false, cond, not, ◌&&◌}
use mathlib.Core.Option.{Option, none, some}
use native.Mathlib.Omega.{arith}
use lib.Dec.{T, eqb, eqb→eq}
use borrow.Author.Tests.{eqb-true, eq-eqb, not-false}
use Rattle.std.specs.Prelude.{Result, Err}
use Rattle.paper.specs.Refusal.{out_of_range, unassigned, outside_field, number_of}
use Rattle.paper.specs.Told.{Told, given, refused, told}
use Rattle.paper.specs.declared.refusal.Refusal.{Refusal}
use Rattle.paper.specs.declared.refusal.Refusal.TheVariants.{OutOfRange, Unassigned, OutsideField as OutOfField}
use Rattle.paper.specs.Sheet.{Sensible}
use Rattle.paper.specs.declared.sheet.Sheet.{Sheet}
use Rattle.paper.proofs.Cases.{less}
use Rattle.paper.proofs.Exactly.{Exactly, then, both, same_number, here, past, nowhere}
use Rattle.paper.proofs.Every.{every, at, left, right}
use Rattle.paper.proofs.Telling.{told_one, number_one, number_some, refused_one, not_given}
use Rattle.paper.proofs.Refusing.{err_exactly}
use Rattle.instructions.specs.Write.{field_of, flag_of, write_of, OutsideField, IsWritten}
use Rattle.instructions.specs.Read.{class_of, read_by, read_first, read_of, assigned, nothing_awaited, IsRead}
use Rattle.instructions.specs.Added.{of_other, added_first, read_added, assigned_added, write_added, OutsideAdded, IsReadAdded, IsWrittenAdded}
use Rattle.instructions.specs.Class.{IsClass}
use Rattle.instructions.specs.declared.instruction.Awaited.{Awaited}
use Rattle.instructions.specs.declared.instruction.Awaited.TheVariants as awaited
use Rattle.instructions.specs.declared.added.CommandSet.TheVariants.{Old, New}
use Rattle.instructions.specs.declared.added.Added.{Added}
use Rattle.instructions.specs.declared.added.Added.TheVariants.{Com0Next, Com0Value, DutyNext, DutyValue, InversionNext, InversionValue, FrameInversion}
use Rattle.instructions.specs.declared.instruction.Instruction.{Instruction}
use Rattle.instructions.specs.declared.instruction.Instruction.TheVariants.{ColumnLow, ColumnHigh, Resistor, Power, StartLine, ContrastNext, ContrastValue, Adc, Bias, Entire, Reverse, IndicatorOff, IndicatorOn, IndicatorValue, Display, Page, Shl, ModifyReadOn, ModifyReadOff, Reset, Nop}
use Rattle.instructions.proofs.Fields.{field_given, field_refused}
use Rattle.instructions.proofs.Fits.{Proper, read_proper, added_proper}

-- ---- the reader

-- two readings that the promise admits are equal
pub read_one : {k : Sheet} {a : Awaited} {b : ℕ} {r s : Result Instruction Refusal} → IsRead k a b r → IsRead k a b s → r ≡ s
read_one {r = r} {s = s} f g = told_one r s (f.tells ∙ sym g.tells)

-- and so with the new set's
pub read_added_one : {a : Awaited} {b : ℕ} {r s : Result Added Refusal} → IsReadAdded a b r → IsReadAdded a b s → r ≡ s
read_added_one {r = r} {s = s} f g = told_one r s (f.tells ∙ sym g.tells)

-- ---- the writer

-- two writings that the promise admits are equal
pub written_one : {k : Sheet} {i : Instruction} {w v : Result ℕ Refusal} → IsWritten k i w → IsWritten k i v → w ≡ v
written_one {w = w} {v = v} f g = told_one w v (f.tells ∙ sym g.tells)

pub written_added_one : {i : Added} {w v : Result ℕ Refusal} → IsWrittenAdded i w → IsWrittenAdded i v → w ≡ v
written_added_one {w = w} {v = v} f g = told_one w v (f.tells ∙ sym g.tells)

-- ---- the class

-- two classes that the promise admits are equal
pub class_one : {b r s : ℕ} → IsClass b r → IsClass b s → r ≡ s
class_one f g = f.tells ∙ sym g.tells

-- the class is 0 exactly if the byte is unassigned
pub class_0 : {b r : ℕ} → IsClass b r → Exactly (r ≡ 0) (assigned b ≡ false)
unfolding assigned
class_0 {b} f =
    (λ e. ap not (eq-eqb (class_of b) 0 (sym f.tells ∙ e)), λ e. f.tells ∙ eqb-true (class_of b) 0 (not-false (eqb (class_of b) 0) e))

-- ---- numbers 2 and 4: a byte of the other set awaited; an instruction byte unassigned and nothing awaited; and only then

-- the number of what is told: 0 where something is given
abbrev pub told_number : {I : Type 0} → ℕ → Option I → ℕ
told_number n (some i) = 0
told_number n none = n

-- where nothing is awaited, one of the 256 bytes is refused with 4 exactly if it is unassigned
unfoldable pub refused_so : {I : Type 0} → (ℕ → Told I) → (ℕ → Bool) → ℕ → Bool
refused_so first known b =
    eqb (first b).number (cond (known b) 0 unassigned) && eqb (told_number (first b).number (first b).value) (cond (known b) 0 unassigned)

-- the number of a byte of a set, by what is awaited: of the other set, or nothing
abbrev pub number_by : Bool → Bool → Bool → ℕ
number_by other nothing known = cond other out_of_range (cond (nothing && not known) unassigned 0)

-- what is told has this number, whether something is given or not
abbrev pub Has : {I : Type 0} → Told I → ℕ → Type 0
Has t n = (t.number ≡ n) × (told_number t.number t.value ≡ n)

first_by : {I : Type 0} (t : Told I) (known : Bool) → Has t (cond known 0 unassigned) → Has t (number_by false true known)
first_by t true h = h
first_by t false h = h

first_number : {I : Type 0} (first : ℕ → Told I) (known : ℕ → Bool) → T (every (refused_so first known) 0 256) → (b : ℕ) → b < 256
    → Has (first b) (number_by false true (known b))
unfolding refused_so
first_number first known all b h =
    let n = cond (known b) 0 unassigned in
    let t = at (refused_so first known) 256 all b h in
    first_by (first b) (known b)
    (eqb→eq (first b).number n (left (eqb (first b).number n) _ t), eqb→eq (told_number (first b).number (first b).value) n (right (eqb (first b).number n) _ t))

module _ (b : ℕ) (h : b < 256) where
  pub number_read : (k : Sheet) (a : Awaited) → Has (read_of k a b) (number_by (of_other Old a) (nothing_awaited a) (assigned b))
  unfolding refused_so read_first read_by class_of assigned
  number_read k awaited.Nothing = first_number (read_first k) assigned tt b h
  number_read k awaited.Contrast = (refl, refl)
  number_read k awaited.Indicator = (refl, refl)
  number_read k awaited.Com0 = (refl, refl)
  number_read k awaited.Duty = (refl, refl)
  number_read k awaited.Inversion = (refl, refl)

  pub number_added : (a : Awaited) → Has (read_added a b) (number_by (of_other New a) (nothing_awaited a) (assigned_added b))
  unfolding refused_so added_first assigned_added
  number_added awaited.Nothing = first_number added_first assigned_added tt b h
  number_added awaited.Contrast = (refl, refl)
  number_added awaited.Indicator = (refl, refl)
  number_added awaited.Com0 = (refl, refl)
  number_added awaited.Duty = (refl, refl)
  number_added awaited.Inversion = (refl, refl)

-- whatever holds exactly at such a number, 2 or 4, holds exactly when that number is given
module _ {Refused : Type 0} {n : ℕ} (other nothing known : Bool) (is : n ≡ number_by other nothing known) where
  at_2 : Exactly Refused (n ≡ out_of_range) → Exactly Refused (other ≡ true)
  at_2 f =
      then f (then (same_number is) (here other out_of_range _ (nowhere (nothing && not known) unassigned 0 out_of_range (λ e. omega arith) (λ e. omega arith))))

  at_4 : Exactly Refused (n ≡ unassigned) → Exactly Refused ((other ≡ false) × ((nothing && not known) ≡ true))
  at_4 f =
      then f (then (same_number is)
      (then (past other out_of_range _ unassigned (λ e. omega arith)) (both (λ e. e, λ e. e) (here (nothing && not known) unassigned 0 (λ e. omega arith)))))

-- the reader's, and the new set's
module _ (a : Awaited) (b : ℕ) (h : b < 256) where
  module _ {k : Sheet} {r : Result Instruction Refusal} (f : IsRead k a b r) where
    read_is : (told r).number ≡ number_by (of_other Old a) (nothing_awaited a) (assigned b)
    read_is = ap (λ t. t.number) f.tells ∙ (number_read b h k a).0

    pub unread_2 : Exactly (r ≡ Err OutOfRange) (of_other Old a ≡ true)
    unread_2 = at_2 (of_other Old a) (nothing_awaited a) (assigned b) read_is (err_exactly r OutOfRange)

    pub unread_4 : Exactly (r ≡ Err Unassigned) ((of_other Old a ≡ false) × ((nothing_awaited a && not (assigned b)) ≡ true))
    unread_4 = at_4 (of_other Old a) (nothing_awaited a) (assigned b) read_is (err_exactly r Unassigned)

  module _ {r : Result Added Refusal} (f : IsReadAdded a b r) where
    added_is : (told r).number ≡ number_by (of_other New a) (nothing_awaited a) (assigned_added b)
    added_is = ap (λ t. t.number) f.tells ∙ (number_added b h a).0

    pub unread_added_2 : Exactly (r ≡ Err OutOfRange) (of_other New a ≡ true)
    unread_added_2 = at_2 (of_other New a) (nothing_awaited a) (assigned_added b) added_is (err_exactly r OutOfRange)

    pub unread_added_4 : Exactly (r ≡ Err Unassigned) ((of_other New a ≡ false) × ((nothing_awaited a && not (assigned_added b)) ≡ true))
    unread_added_4 = at_4 (of_other New a) (nothing_awaited a) (assigned_added b) added_is (err_exactly r Unassigned)

-- no number but 2 and 4
by_number : (e : Refusal) → (number_of e ≡ unassigned) ⊎ (number_of e ≡ out_of_range) → (e ≡ Unassigned) ⊎ (e ≡ OutOfRange)
by_number e h = ⊎_elim (λ f. inl (number_one e Unassigned f)) (λ f. inr (number_one e OutOfRange f)) h

pub unread_only : {k : Sheet} {a : Awaited} {b : ℕ} {e : Refusal} → Sensible k → IsRead k a b (Err e) → (e ≡ Unassigned) ⊎ (e ≡ OutOfRange)
unread_only {k} {a} {b} {e} g f = by_number e (subst (λ t. Proper (write_of k) t.number t.value) (sym f.tells) (read_proper k g a b))

pub unread_added_only : {a : Awaited} {b : ℕ} {e : Refusal} → IsReadAdded a b (Err e) → (e ≡ Unassigned) ⊎ (e ≡ OutOfRange)
unread_added_only {a} {b} {e} f = by_number e (subst (λ t. Proper write_added t.number t.value) (sym f.tells) (added_proper a b))

pub unread_not_0 : {k : Sheet} {a : Awaited} {b : ℕ} {e : Refusal} → Sensible k → IsRead k a b (Err e) → number_of e ≢ 0
unread_not_0 {e = e} g f = number_some e

pub unread_added_not_0 : {a : Awaited} {b : ℕ} {e : Refusal} → IsReadAdded a b (Err e) → number_of e ≢ 0
unread_added_not_0 {e = e} f = number_some e

-- ---- number 6: a value to write outside its field, and only then

-- a byte is given, and the value is not outside its field
record Byte (Outside : Type 0) (t : Told ℕ) : Type 0 where
  byte : ℕ
  is : t ≡ given byte
  inside : Outside → ⊥

-- what is told of a value: 6, and it is outside its field, or a byte
abbrev Six : Type 0 → Told ℕ → Type 0
Six Outside t = ((t ≡ refused outside_field) × Outside) ⊎ Byte Outside t

-- a field, a single byte, a flag
field_so : (base count v : ℕ) → Six (count ≤ v) (field_of base count v)
field_so base count v = less v count
    (λ h. inr (record { byte = base + v; is = field_given base count v h; inside = λ l. omega arith }))
    (λ h. inl (field_refused base count v h, h))

byte_so : (b : ℕ) → Six ⊥ (given b)
byte_so b = inr (record { byte = b; is = refl; inside = λ x. x })

flag_so : (off on : ℕ) (f : Bool) → Six ⊥ (flag_of off on f)
unfolding flag_of
flag_so off on true = byte_so on
flag_so off on false = byte_so off

-- the table, row by row
written_so : (k : Sheet) (i : Instruction) → Six (OutsideField k i) (write_of k i)
written_so k (ColumnLow v) = field_so 0x00 16 v
written_so k (ColumnHigh v) = field_so 0x10 k.highs v
written_so k (Resistor v) = field_so 0x20 8 v
written_so k (Power v) = field_so 0x28 8 v
written_so k (StartLine v) = field_so 0x40 64 v
written_so k ContrastNext = byte_so 0x81
written_so k (ContrastValue v) = field_so 0x00 64 v
written_so k (Adc f) = flag_so 0xa0 0xa1 f
written_so k (Bias f) = flag_so 0xa2 0xa3 f
written_so k (Entire f) = flag_so 0xa4 0xa5 f
written_so k (Reverse f) = flag_so 0xa6 0xa7 f
written_so k IndicatorOff = byte_so 0xac
written_so k IndicatorOn = byte_so 0xad
written_so k (IndicatorValue v) = field_so 0x00 4 v
written_so k (Display f) = flag_so 0xae 0xaf f
written_so k (Page v) = field_so 0xb0 16 v
written_so k (Shl f) = flag_so 0xc0 0xc8 f
written_so k ModifyReadOn = byte_so 0xe0
written_so k ModifyReadOff = byte_so 0xee
written_so k Reset = byte_so 0xe2
written_so k Nop = byte_so 0xe3

-- and so the new set's
added_so : (i : Added) → Six (OutsideAdded i) (write_added i)
added_so Com0Next = byte_so 0x44
added_so (Com0Value v) = field_so 0x00 128 v
added_so DutyNext = byte_so 0x48
added_so (DutyValue v) = field_so 0x00 128 v
added_so InversionNext = byte_so 0x4c
added_so (InversionValue v) = field_so 0x00 32 v
added_so FrameInversion = byte_so 0xe4

-- so 6 is told exactly if the value is outside, it is the number exactly then, and no other number is told
module _ {Outside : Type 0} {t : Told ℕ} where
  is_6 : Six Outside t → Exactly (t ≡ refused outside_field) Outside
  is_6 (inl p) = (λ e. p.1, λ o. p.0)
  is_6 (inr g) = (λ e. absurd (not_given (sym e ∙ g.is)), λ o. absurd (g.inside o))

  number_6 : Six Outside t → Exactly (t.number ≡ outside_field) Outside
  number_6 (inl p) = (λ e. p.1, λ o. ap (λ x. x.number) p.0)
  number_6 (inr g) = (λ e. absurd (let z : 0 ≡ 6 = sym (ap (λ x. x.number) g.is) ∙ e in omega arith), λ o. absurd (g.inside o))

  only_6 : Six Outside t → {n : ℕ} → refused n ≡ t → n ≡ outside_field
  only_6 (inl p) e = refused_one (e ∙ p.0)
  only_6 (inr g) e = absurd (not_given (e ∙ g.is))

  -- and so it is with an answer of a writer
  answer_6 : Six Outside t → {a : Result ℕ Refusal} → told a ≡ t → Exactly (a ≡ Err OutOfField) Outside
  answer_6 s {a} f = then (λ e. sym f ∙ ap told e, λ e. told_one a (Err OutOfField) (f ∙ e)) (is_6 s)

module _ (k : Sheet) (i : Instruction) where
  -- the number that is told is 6 exactly if the value is outside its field
  pub number_written_6 : Exactly ((write_of k i).number ≡ outside_field) (OutsideField k i)
  number_written_6 = number_6 (written_so k i)

  pub written_6 : {a : Result ℕ Refusal} → IsWritten k i a → Exactly (a ≡ Err OutOfField) (OutsideField k i)
  written_6 f = answer_6 (written_so k i) f.tells

  -- no number but 6
  pub unwritten_6 : (e : Refusal) → IsWritten k i (Err e) → e ≡ OutOfField
  unwritten_6 e f = number_one e OutOfField (only_6 (written_so k i) f.tells)

  pub unwritten_not_0 : (e : Refusal) → IsWritten k i (Err e) → number_of e ≢ 0
  unwritten_not_0 e f = number_some e

-- the new set's
module _ (i : Added) where
  pub number_added_6 : Exactly ((write_added i).number ≡ outside_field) (OutsideAdded i)
  number_added_6 = number_6 (added_so i)

  pub written_added_6 : {a : Result ℕ Refusal} → IsWrittenAdded i a → Exactly (a ≡ Err OutOfField) (OutsideAdded i)
  written_added_6 f = answer_6 (added_so i) f.tells

  pub unwritten_added_6 : (e : Refusal) → IsWrittenAdded i (Err e) → e ≡ OutOfField
  unwritten_added_6 e f = number_one e OutOfField (only_6 (added_so i) f.tells)

  pub unwritten_added_not_0 : (e : Refusal) → IsWrittenAdded i (Err e) → number_of e ≢ 0
  unwritten_added_not_0 e f = number_some e
