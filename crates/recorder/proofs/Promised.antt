-- What the three promises fix. Two answers that a promise admits are equal, and so are the outputs that they leave; a refusal carries a
-- number that is not 0, and leaves the output. And what the tests of the promises say, in the order's words.
-- Assumes nothing.
use Prim.Native.Nat.{ℕ, ◌*◌}
use mathlib.Core.Path.{◌≡◌, refl, sym, ap, subst, ◌∙◌}
use mathlib.Core.Logic.{◌≢◌, inl, inr, ⊎_elim}
use mathlib.Core.Bool.{true, false}
use mathlib.Core.List.{List, [], ◌∷◌}
use lib.Dec.{T}
use lib.ListN.{length}
use Rattle.std.specs.Prelude.{Result, Ok, Err}
use Rattle.paper.specs.Refusal.{number_of}
use Rattle.paper.specs.Told.{told}
use Rattle.paper.specs.Over.{over}
use Rattle.paper.specs.declared.refusal.Refusal.{Refusal}
use Rattle.paper.proofs.Either.{either, or_true}
use Rattle.paper.proofs.Exactly.{Exactly, no_exactly, yes_exactly}
use Rattle.paper.proofs.Telling.{told_one, number_one, some_one, none_some}
use Rattle.paper.proofs.Answering.{number_number, refused_number}
use Rattle.instructions.specs.declared.added.CommandSet.{CommandSet}
use Rattle.controller.specs.Cycle.{malformed}
use Rattle.controller.specs.Run.{BusCycle}
use Rattle.recorder.specs.Cycles.{any_wrong}
use Rattle.recorder.specs.Written.{Written}
use Rattle.recorder.specs.Text.{told_lines, IsWrittenText, IsReadText}
use Rattle.recorder.specs.Job.{wrong_pictures, IsWrittenJob}
use Rattle.recorder.specs.declared.text.Unread.{Unread}
use Rattle.recorder.specs.declared.text.Unread.TheVariants.{BadLine, Refused}
use Rattle.recorder.proofs.CycleBytes.{wrong_none, wrong_next}
use Rattle.recorder.proofs.Answers.{right_pictures}
use Rattle.recorder.proofs.JobFile.{pictures_right}

-- ---- one answer

written_one : {number : ℕ} {bytes out : List ℕ} {a b : Result ℕ Refusal} {l m : List ℕ} → Written number bytes out a l → Written number bytes out b m → (a ≡ b) × (l ≡ m)
written_one {a = a} {b = b} f g = (told_one a b (f.tells ∙ sym g.tells), f.leaves ∙ sym g.leaves)

pub text_one : (cycles : List ℕ) {out : List ℕ} {a b : Result ℕ Refusal} {l m : List ℕ} → IsWrittenText cycles out a l → IsWrittenText cycles out b m → (a ≡ b) × (l ≡ m)
text_one cycles f g = written_one f g

pub job_one : (set : CommandSet) (cycles : List ℕ) (p : ℕ) (pictures : List ℕ) {out : List ℕ} {a b : Result ℕ Refusal} {l m : List ℕ}
    → IsWrittenJob set cycles p pictures out a l → IsWrittenJob set cycles p pictures out b m → (a ≡ b) × (l ≡ m)
job_one set cycles p pictures f g = written_one f g

-- answers of read_text that are told alike are equal
pub lines_told : (a b : Result ℕ Unread) → told_lines a ≡ told_lines b → a ≡ b
lines_told (Ok n) (Ok m) e = ap Ok (some_one (ap (λ t. t.cycles) e))
lines_told (Ok n) (Err (BadLine m)) e = absurd (none_some (ap (λ t. t.cycles) (sym e)))
lines_told (Ok n) (Err (Refused s)) e = absurd (none_some (ap (λ t. t.cycles) (sym e)))
lines_told (Err (BadLine n)) (Ok m) e = absurd (none_some (ap (λ t. t.cycles) e))
lines_told (Err (BadLine n)) (Err (BadLine m)) e = ap (λ (k : ℕ). Err (BadLine k)) (some_one (ap (λ t. t.line) e))
lines_told (Err (BadLine n)) (Err (Refused s)) e = absurd (none_some (ap (λ t. t.line) (sym e)))
lines_told (Err (Refused r)) (Ok m) e = absurd (none_some (ap (λ t. t.cycles) e))
lines_told (Err (Refused r)) (Err (BadLine m)) e = absurd (none_some (ap (λ t. t.line) e))
lines_told (Err (Refused r)) (Err (Refused s)) e = ap (λ (k : Refusal). Err (Refused k)) (number_one r s (ap (λ t. t.number) e))

pub lines_one : {text out : List ℕ} {a b : Result ℕ Unread} {l m : List ℕ} → IsReadText text out a l → IsReadText text out b m → (a ≡ b) × (l ≡ m)
lines_one {a = a} {b = b} f g = (lines_told a b (f.tells ∙ sym g.tells), f.leaves ∙ sym g.leaves)

-- ---- a writer's number, and its refusal

pub written_number : {number : ℕ} {bytes out : List ℕ} {a : Result ℕ Refusal} {left : List ℕ} → Written number bytes out a left → (told a).number ≡ number
written_number {number} {bytes} f = ap (λ t. t.number) f.tells ∙ number_number number (length bytes)

pub written_refused_leaves : {number : ℕ} {r : Refusal} {bytes out left : List ℕ} → Written number bytes out (Err r) left → (number_of r ≢ 0) × (left ≡ out)
written_refused_leaves {number} {r} {bytes} f =
    let e = refused_number number (number_of r) (length bytes) f.tells in
    (e.0, f.leaves ∙ rw e.1 refl)

-- where the number is 0, all is written
pub written_all : {number : ℕ} {bytes out : List ℕ} {a : Result ℕ Refusal} {left : List ℕ} → Written number bytes out a left → number ≡ 0
    → (a ≡ Ok (length bytes)) × (left ≡ over bytes out)
written_all {bytes = bytes} {a = a} f e = (told_one a (Ok (length bytes)) (rw e at f.tells), rw e at f.leaves)

-- ---- tests in words

-- a cycle that number 9 would refuse is among them
pub data WrongAmong : List BusCycle → Type 0 where
  first : {x : BusCycle} {xs : List BusCycle} → malformed x.0 x.1 ≡ true → WrongAmong (x ∷ xs)
  later : {x : BusCycle} {xs : List BusCycle} → WrongAmong xs → WrongAmong (x ∷ xs)

among_by : (xs : List BusCycle) → any_wrong xs ≡ true → WrongAmong xs
among_by [] e = absurd (subst T (sym e ∙ wrong_none) tt)
among_by (x ∷ xs) e = ⊎_elim first (λ h. later (among_by xs h)) (either (malformed x.0 x.1) (any_wrong xs) (sym (wrong_next x xs) ∙ e))

by_among : (xs : List BusCycle) → WrongAmong xs → any_wrong xs ≡ true
by_among [] w = elim w [ ]
by_among (x ∷ xs) (first h) = wrong_next x xs ∙ or_true (malformed x.0 x.1) (any_wrong xs) (inl h)
by_among (x ∷ xs) (later w) = wrong_next x xs ∙ or_true (malformed x.0 x.1) (any_wrong xs) (inr (by_among xs w))

pub wrong_yes : (xs : List BusCycle) → Exactly (any_wrong xs ≡ true) (WrongAmong xs)
wrong_yes xs = (among_by xs, by_among xs)

pub wrong_no : (xs : List BusCycle) → Exactly (any_wrong xs ≡ false) (WrongAmong xs → ⊥)
wrong_no xs = no_exactly (any_wrong xs) (wrong_yes xs)

pub size_no : (total p : ℕ) → Exactly (wrong_pictures total p ≡ false) (total ≡ 1188 * p)
size_no total p = (right_pictures total p, pictures_right total p)

pub size_yes : (total p : ℕ) → Exactly (wrong_pictures total p ≡ true) (total ≢ 1188 * p)
size_yes total p = yes_exactly (wrong_pictures total p) (size_no total p)
