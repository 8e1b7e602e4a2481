-- The reader is pinned by the writer. At each of the 256 bytes, by computing: what is read is written again as that byte with its
-- free bits 0, and a byte is read where it is with its free bits 0; the round trip of the writer gives the rest.
-- Assumes nothing.
use Prim.Native.Nat.{ℕ, zero, suc, ◌+◌, ◌%◌, ◌<◌}
use mathlib.Core.Path.{◌≡◌, ◌∙◌, refl, ap, sym, subst}
use mathlib.Core.Bool.{Bool, true, false, cond, ◌&&◌}
use mathlib.Core.Option.{Option, none, some}
use native.Mathlib.Omega.{arith}
use lib.Dec.{T, eqb, eqb→eq}
use Rattle.paper.specs.Refusal.{unassigned}
use Rattle.paper.specs.Told.{Told, given, refused}
use Rattle.paper.specs.Sheet.{Sensible, sheet0713, sheet0717}
use Rattle.paper.specs.declared.sheet.Sheet.{Sheet}
use Rattle.paper.proofs.Every.{every, at, left, right}
use Rattle.paper.proofs.Exactly.{Exactly}
use Rattle.paper.specs.Sheet.{sensible0713, sensible0717}
use Rattle.paper.proofs.Telling.{told_is}
use Rattle.instructions.specs.Write.{field_of, flag_of, write_of}
use Rattle.instructions.specs.Read.{class_of, room_in, read_by, read_first, read_of, assigned, plain, again, nothing_awaited, awaited_for}
use Rattle.instructions.specs.declared.instruction.Awaited.{Awaited}
use Rattle.instructions.specs.declared.instruction.Awaited.TheVariants as awaited
use Rattle.instructions.specs.declared.instruction.Instruction.{Instruction}
use Rattle.instructions.proofs.Fields.{field_given}
use Rattle.instructions.proofs.ReadBack.{read_back}

-- ---- equality of what is told, as a test

unfoldable pub same_byte : Option ℕ → Option ℕ → Bool
same_byte none none = true
same_byte none (some b) = false
same_byte (some a) none = false
same_byte (some a) (some b) = eqb a b

unfoldable pub same : Told ℕ → Told ℕ → Bool
same s t = eqb s.number t.number && same_byte s.value t.value

is_same_byte : (x y : Option ℕ) → T (same_byte x y) → x ≡ y
unfolding same_byte
is_same_byte none none t = refl
is_same_byte none (some b) t = absurd t
is_same_byte (some a) none t = absurd t
is_same_byte (some a) (some b) t = ap some (eqb→eq a b t)

pub is_same : (s t : Told ℕ) → T (same s t) → s ≡ t
unfolding same
is_same s t h =
    told_is s (eqb→eq s.number t.number (left (eqb s.number t.number) (same_byte s.value t.value) h))
    (is_same_byte s.value t.value (right (eqb s.number t.number) (same_byte s.value t.value) h))

-- ---- each assigned byte, read and written again, is itself with its free bits zero; any other is refused with 4

first : Sheet → ℕ → Bool
first k b = same (again k (read_first k b)) (cond (assigned b) (given (plain k b)) (refused unassigned))

abbrev pub FirstAgain : Sheet → Type 0
FirstAgain k = (b : ℕ) → b < 256 → again k (read_of k awaited.Nothing b) ≡ cond (assigned b) (given (plain k b)) (refused unassigned)

first_by : (k : Sheet) → T (every (first k) 0 256) → FirstAgain k
unfolding first
first_by k all b h = is_same _ _ (at (first k) 256 all b h)

pub first_again : FirstAgain sheet0713
unfolding first same same_byte read_first read_by class_of room_in field_of flag_of assigned plain
first_again = first_by sheet0713 tt

pub first_again_0717 : FirstAgain sheet0717
unfolding first same same_byte read_first read_by class_of room_in field_of flag_of assigned plain
first_again_0717 = first_by sheet0717 tt

-- on the KS0717 bit 3 of a high column byte is free: 18-1F are 10-17 with it 0
pub high_plain : (v : ℕ) → v < 8 → plain sheet0717 (0x18 + v) ≡ 0x10 + v
unfolding plain room_in
high_plain v h = eqb→eq _ _ (at (λ (x : ℕ). eqb (plain sheet0717 (0x18 + x)) (0x10 + x)) 8 tt v h)

-- an awaited second byte, whatever its value: its free bits are those above its field
pub contrast_again : (k : Sheet) (b : ℕ) → again k (read_of k awaited.Contrast b) ≡ given (b % 64)
contrast_again k b = field_given 0x00 64 (b % 64) (omega arith) ∙ ap given (omega arith)

pub indicator_again : (k : Sheet) (b : ℕ) → again k (read_of k awaited.Indicator b) ≡ given (b % 4)
indicator_again k b = field_given 0x00 4 (b % 4) (omega arith) ∙ ap given (omega arith)

-- ---- these are 161 bytes

abbrev pub how_many : (ℕ → Bool) → ℕ → ℕ
how_many f zero = 0
how_many f (suc n) = cond (f n) 1 0 + how_many f n

pub assigned_161 : how_many assigned 256 ≡ 161
unfolding assigned class_of
assigned_161 = refl

-- ---- with nothing awaited a byte is read as i exactly if i is no second byte and is written as that byte with its free bits 0

is_nothing : (a : Awaited) → T (nothing_awaited a) → a ≡ awaited.Nothing
is_nothing awaited.Nothing t = refl
is_nothing awaited.Contrast t = absurd t
is_nothing awaited.Indicator t = absurd t
is_nothing awaited.Com0 t = absurd t
is_nothing awaited.Duty t = absurd t
is_nothing awaited.Inversion t = absurd t

unfoldable pub whole : Option Instruction → Bool
whole (some i) = true
whole none = false

-- what is read of byte b is written as b with its free bits 0, is no second byte, and is not refused
abbrev pub agrees_by : Sheet → ℕ → ℕ → Option Instruction → Bool
agrees_by k b n (some i) = same (write_of k i) (given (plain k b)) && (nothing_awaited (awaited_for i) && eqb n 0)
agrees_by k b n none = true

abbrev pub agrees : Sheet → ℕ → Told Instruction → Bool
agrees k b t = agrees_by k b t.number t.value

unfoldable pub both_or_none : Bool → Bool → Bool
both_or_none true b = b
both_or_none false true = false
both_or_none false false = true

is_both : (a b : Bool) → T (both_or_none a b) → a ≡ b
unfolding both_or_none
is_both true true t = refl
is_both true false t = absurd t
is_both false true t = absurd t
is_both false false t = refl

abbrev pub agree : Sheet → ℕ → Bool
agree k b = agrees k b (read_first k b) && both_or_none (whole (read_first k b).value) (whole (read_first k (plain k b)).value)

module _ (k : Sheet) (g : Sensible k) (all : T (every (agree k) 0 256)) (b : ℕ) (h : b < 256) where
  pub read_is : (i : Instruction) → read_of k awaited.Nothing b ≡ given i → (awaited_for i ≡ awaited.Nothing) × (write_of k i ≡ given (plain k b))
  read_is i e =
      let w = same (write_of k i) (given (plain k b)) in
      let t : T (agrees k b (given i)) = subst (λ x. T (agrees k b x)) e (left (agrees k b (read_first k b)) _ (at (agree k) 256 all b h)) in (
        is_nothing (awaited_for i) (left (nothing_awaited (awaited_for i)) (eqb 0 0) (right w (nothing_awaited (awaited_for i) && eqb 0 0) t)),
        is_same (write_of k i) (given (plain k b)) (left w (nothing_awaited (awaited_for i) && eqb 0 0) t),
      )

  there : (i : Instruction) → awaited_for i ≡ awaited.Nothing → write_of k i ≡ given (plain k b) → read_first k (plain k b) ≡ given i
  there i c e = subst (λ a. read_of k a (plain k b) ≡ given i) c (read_back k g i (plain k b) e)

  -- a byte is read where it is read with its free bits 0
  read_there : (x : Option Instruction) → (read_first k b).value ≡ x → (i : Instruction) → read_first k (plain k b) ≡ given i → read_first k b ≡ given i
  unfolding whole
  read_there (some j) e i f =
      let t : T (agrees_by k b (read_first k b).number (some j)) = subst (λ x. T (agrees_by k b (read_first k b).number x)) e (left (agrees k b (read_first k b)) _ (at (agree k) 256 all b h)) in
      let n : (read_first k b).number ≡ 0 = eqb→eq (read_first k b).number 0 (right (nothing_awaited (awaited_for j)) (eqb (read_first k b).number 0) (right (same (write_of k j) (given (plain k b))) _ t)) in
      let m : read_first k b ≡ given j = told_is (read_first k b) n e in
      let p = read_is j m in
      m ∙ sym (there j p.0 p.1) ∙ f
  read_there none e i f =
      let q = is_both (whole (read_first k b).value) (whole (read_first k (plain k b)).value) (right (agrees k b (read_first k b)) _ (at (agree k) 256 all b h)) in
      let z : false ≡ true = sym (ap whole e) ∙ q ∙ ap (λ t. whole t.value) f in
      absurd (subst T (sym z) tt)

  pub is_read : (i : Instruction) → (awaited_for i ≡ awaited.Nothing) × (write_of k i ≡ given (plain k b)) → read_of k awaited.Nothing b ≡ given i
  is_read i p = read_there (read_first k b).value refl i (there i p.0 p.1)

abbrev pub IsPinned : Sheet → Type 0
IsPinned k = (b : ℕ) → b < 256 → (i : Instruction)
    → Exactly (read_of k awaited.Nothing b ≡ given i) ((awaited_for i ≡ awaited.Nothing) × (write_of k i ≡ given (plain k b)))

pinned_by : (k : Sheet) → Sensible k → T (every (agree k) 0 256) → IsPinned k
pinned_by k g all b h i = (read_is k g all b h i, is_read k g all b h i)

pub pinned : IsPinned sheet0713
unfolding whole both_or_none same same_byte read_first read_by class_of room_in field_of flag_of plain
pinned = pinned_by sheet0713 sensible0713 tt

pub pinned_0717 : IsPinned sheet0717
unfolding whole both_or_none same same_byte read_first read_by class_of room_in field_of flag_of plain
pinned_0717 = pinned_by sheet0717 sensible0717 tt
