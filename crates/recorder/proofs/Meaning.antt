-- The text form: any list of good cycles has one text, which is read as that list; what is read as a list is that list's text; and a
-- text is bad exactly if no list has it, at the first line that no good cycle has.
-- Assumes nothing.
use Prim.Native.Nat.{ℕ, zero, suc, ◌+◌, ◌*◌, ◌≤◌, ◌<◌}
use mathlib.Core.Path.{◌≡◌, refl, sym, ap, subst, ◌∙◌}
use mathlib.Core.Logic.{◌≢◌}
use mathlib.Core.Bool.{true, false}
use mathlib.Core.List.{List, [], ◌∷◌, ◌++◌, append-nil, append_assoc}
use native.Mathlib.Omega.{arith}
use borrow.Author.Tests.{lt-ltb, le-ltb, ltb-true, ltb-false}
use lib.Dec.{T}
use lib.ListN.{length, drop, length-append, length-drop, drop_of_length-le}
use lib.Seq.{drop-append_seam, drop-drop}
use Rattle.paper.proofs.Cases.{split}
use Rattle.paper.proofs.Exactly.{Exactly, yes_exactly}
use Rattle.controller.specs.Run.{BusCycle}
use Rattle.recorder.specs.Cycles.{good_cycle}
use Rattle.recorder.specs.Line.{cycle_text, cycle_in, line_in}
use Rattle.recorder.specs.Text.{cycles_text, front_cycles, cycles_in, bad_text}
use Rattle.recorder.proofs.CycleBytes.{AllGood, no_more, one_more}
use Rattle.recorder.proofs.Lines.{line_length, stands, line_again}
use Rattle.recorder.proofs.Reading.{text_none, text_next, front_end, front_next, empty_end, stands_fits}

-- ---- how long a text is

-- at least two bytes a cycle
text_least : (xs : List BusCycle) → 2 * length xs ≤ length (cycles_text xs)
text_least [] = omega arith
text_least (x ∷ xs) =
    let e = text_least xs in
    let f = (line_length x).0 in
    rw (text_next x xs, length-append (cycle_text x) (cycles_text xs)) (omega arith)

-- at most five
pub text_most_lem : (xs : List BusCycle) → length (cycles_text xs) ≤ 5 * length xs
text_most_lem [] = rw text_none (omega arith)
text_most_lem (x ∷ xs) =
    let e = text_most_lem xs in
    let f = (line_length x).1 in
    rw (text_next x xs, length-append (cycle_text x) (cycles_text xs)) (omega arith)

-- ---- good lines are read back, up to a place where there is none

front_again : (xs : List BusCycle) (rest : List ℕ) (n : ℕ) → AllGood xs → line_in rest ≡ false → length xs ≤ n → front_cycles n (cycles_text xs ++ rest) ≡ xs
front_again [] rest n g e h = rw text_none (front_end n rest e)
front_again (x ∷ xs) rest zero g e h = absurd (omega arith)
front_again (x ∷ xs) rest (suc n) (one_more g gs) e h =
    let a : cycles_text (x ∷ xs) ++ rest ≡ cycle_text x ++ (cycles_text xs ++ rest)
    = ap (λ (l : List ℕ). l ++ rest) (text_next x xs) ∙ append_assoc (cycle_text x) (cycles_text xs) rest in
    let b = line_again x (cycles_text xs ++ rest) g in
    let d = drop-append_seam (cycle_text x) (cycles_text xs ++ rest) in
    rw a (front_next n (cycle_text x ++ (cycles_text xs ++ rest)) b.there ∙ rw (b.cycle, d, front_again xs rest n gs e (omega arith)) refl)

-- reading the text of good cycles gives them
pub text_again : (xs : List BusCycle) → AllGood xs → cycles_in (cycles_text xs) ≡ xs
text_again xs g =
    let l = text_least xs in
    let h : length xs ≤ length (cycles_text xs) = omega arith in
    rw (append-nil (cycles_text xs)) at (front_again xs [] (length (cycles_text xs)) g empty_end h)

-- two lists of good cycles with one text are equal
pub one_list : (xs ys : List BusCycle) → AllGood xs → AllGood ys → cycles_text xs ≡ cycles_text ys → xs ≡ ys
one_list xs ys g h e = sym (text_again xs g) ∙ ap cycles_in e ∙ text_again ys h

-- ---- what is read is good, and its text stands in front

front_good : (n : ℕ) (t : List ℕ) → AllGood (front_cycles n t)
unfolding front_cycles
front_good zero t = no_more
front_good (suc n) t = split (line_in t)
    (λ e. rw e (one_more (stands t e).good (front_good n (drop (length (cycle_text (cycle_in t))) t))))
    (λ e. rw e no_more)

-- what is behind the lines in front of t
abbrev behind : ℕ → List ℕ → List ℕ
behind n t = drop (length (cycles_text (front_cycles n t))) t

-- one line, and what is behind the next ones
behind_next : (n : ℕ) (t : List ℕ) → line_in t ≡ true → behind (suc n) t ≡ behind n (drop (length (cycle_text (cycle_in t))) t)
behind_next n t e =
    let r = drop (length (cycle_text (cycle_in t))) t in
    let a : length (cycles_text (front_cycles (suc n) t)) ≡ length (cycle_text (cycle_in t)) + length (cycles_text (front_cycles n r))
    = rw (front_next n t e, text_next, length-append (cycle_text (cycle_in t)) (cycles_text (front_cycles n r))) refl in
    rw a (sym (drop-drop (length (cycles_text (front_cycles n r))) (length (cycle_text (cycle_in t))) t))

front_text : (n : ℕ) (t : List ℕ) → t ≡ cycles_text (front_cycles n t) ++ behind n t
unfolding front_cycles cycles_text
front_text zero t = refl
front_text (suc n) t = split (line_in t)
    (λ e. (
    let r = drop (length (cycle_text (cycle_in t))) t in
    let a : cycles_text (front_cycles (suc n) t) ≡ cycle_text (cycle_in t) ++ cycles_text (front_cycles n r)
    = ap cycles_text (front_next n t e) ∙ text_next (cycle_in t) (front_cycles n r) in
    (stands t e).starts
    ∙ ap (λ (l : List ℕ). cycle_text (cycle_in t) ++ l) (front_text n r)
    ∙ sym (append_assoc (cycle_text (cycle_in t)) (cycles_text (front_cycles n r)) (behind n r))
    ∙ ap (λ (l : List ℕ). l ++ behind n r) (sym a)
    ∙ ap (λ (l : List ℕ). cycles_text (front_cycles (suc n) t) ++ l) (sym (behind_next n t e))))
    (λ e. rw e refl)

-- no good cycle's line is behind them all
front_stops : (n : ℕ) (t : List ℕ) → length t ≤ n → line_in (behind n t) ≡ false
front_stops zero t h =
    let e : behind zero t ≡ [] = drop_of_length-le t {i = length (cycles_text (front_cycles zero t))} (omega arith) in
    rw e empty_end
front_stops (suc n) t h = split (line_in t)
    (λ e. (
    let f = stands_fits t (stands t e) in
    let m = (line_length (cycle_in t)).0 in
    let l = length-drop (length (cycle_text (cycle_in t))) t in
    rw (behind_next n t e) (front_stops n (drop (length (cycle_text (cycle_in t))) t) (omega arith))))
    (λ e. rw (front_end (suc n) t e, text_none) e)

-- ---- good and bad texts

-- where a text is not bad, it is the text of the cycles that are read, and they are good
pub read_again : (t : List ℕ) → bad_text t ≡ false → AllGood (cycles_in t) × (cycles_text (cycles_in t) ≡ t)
read_again t e =
    let a = ltb-false (length (cycles_text (cycles_in t))) (length t) e in
    let b : behind (length t) t ≡ [] = drop_of_length-le t a in
    (front_good (length t) t, sym (front_text (length t) t ∙ ap (λ (l : List ℕ). cycles_text (cycles_in t) ++ l) b ∙ append-nil _))

-- a text that a list of good cycles has is not bad
pub has_good : (t : List ℕ) (xs : List BusCycle) → AllGood xs → cycles_text xs ≡ t → bad_text t ≡ false
has_good t xs g e =
    let a : cycles_text (cycles_in t) ≡ t = ap (λ (l : List ℕ). cycles_text (cycles_in l)) (sym e) ∙ ap cycles_text (text_again xs g) ∙ e in
    le-ltb (length (cycles_text (cycles_in t))) (length t) (rw a (omega arith))

-- a list of good cycles has the text
pub record HasCycles (t : List ℕ) : Type 0 where
  pub list : List BusCycle
  pub good : AllGood list
  pub text : cycles_text list ≡ t

pub good_exactly : (t : List ℕ) → Exactly (bad_text t ≡ false) (HasCycles t)
good_exactly t = (
  λ e. record { list = cycles_in t; good = (read_again t e).0; text = (read_again t e).1 },
  λ h. has_good t h.list h.good h.text,
)

-- a text is bad exactly if none has
pub bad_exactly : (t : List ℕ) → Exactly (bad_text t ≡ true) (HasCycles t → ⊥)
bad_exactly t = yes_exactly (bad_text t) (good_exactly t)

-- ---- the first bad line

-- no good cycle's line stands in front of t
abbrev pub NoLine : List ℕ → Type 0
NoLine t = (x : BusCycle) (rest : List ℕ) → good_cycle x ≡ true → t ≢ cycle_text x ++ rest

pub no_line_lem : (t : List ℕ) → Exactly (line_in t ≡ false) (NoLine t)
no_line_lem t = (
  λ e x rest g f. subst T (sym (ap line_in f ∙ (line_again x rest g).there) ∙ e) tt,
  λ h. split (line_in t) (λ e. let s = stands t e in absurd (h (cycle_in t) (drop (length (cycle_text (cycle_in t))) t) s.good s.starts)) (λ e. e),
)

-- line n is the first bad one of t: n good cycles' lines stand before it, something is behind them, and no good cycle's line stands there
pub record FirstBad (t : List ℕ) (n : ℕ) : Type 0 where
  pub before : List BusCycle
  pub rest : List ℕ
  pub whole : t ≡ cycles_text before ++ rest
  pub count : length before ≡ n
  pub good : AllGood before
  pub some : rest ≢ []
  pub bad : NoLine rest

-- a bad text has one
pub first_bad : (t : List ℕ) → bad_text t ≡ true → FirstBad t (length (cycles_in t))
first_bad t e = record {
  before = cycles_in t;
  rest = behind (length t) t;
  whole = front_text (length t) t;
  count = refl;
  good = front_good (length t) t;
  some = λ z. (
      let a = ltb-true (length (cycles_text (cycles_in t))) (length t) e in
      let b = length-drop (length (cycles_text (cycles_in t))) t in
      let c : length (behind (length t) t) ≡ 0 = ap length z in
      absurd (omega arith));
  bad = (no_line_lem (behind (length t) t)).0 (front_stops (length t) t (omega arith));
}

some_length : (l : List ℕ) → l ≢ [] → 0 < length l
some_length [] h = absurd (h refl)
some_length (x ∷ l) h = omega arith

-- and no other line is that, nor is one in a text that is not bad
pub first_one : (t : List ℕ) (n : ℕ) → FirstBad t n → (bad_text t ≡ true) × (length (cycles_in t) ≡ n)
first_one t n f =
    let a : length t ≡ length (cycles_text f.before) + length f.rest = ap length f.whole ∙ length-append (cycles_text f.before) f.rest in
    let b = text_least f.before in
    let h : length f.before ≤ length t = omega arith in
    let e : cycles_in t ≡ f.before
    = ap (front_cycles (length t)) f.whole ∙ front_again f.before f.rest (length t) f.good ((no_line_lem f.rest).1 f.bad) h in
    let q = some_length f.rest f.some in
    (lt-ltb (length (cycles_text (cycles_in t))) (length t) (rw e (omega arith)), ap length e ∙ f.count)
