-- Reading a text a line at a time: before each line, the lines from there on complete the count, the place and the output.
-- Assumes nothing.
use Prim.Native.Nat.{ℕ, zero, suc, ◌+◌, ◌*◌, ◌-◌, ◌≤◌, ◌<◌}
use mathlib.Core.Path.{◌≡◌, refl, sym, ap, ◌∙◌}
use mathlib.Core.Bool.{true, false}
use mathlib.Core.Option.{none, some}
use mathlib.Core.List.{List, [], ◌∷◌, ◌++◌}
use native.Mathlib.Nat.{zero-add}
use native.Mathlib.Omega.{arith}
use lib.ListN.{length, take, drop, set, length-append, length-drop}
use lib.Seq.{sets, drop-drop, take_all}
use Rattle.std.specs.Prelude.{Option as Maybe, Some, None}
use Rattle.paper.specs.Kind.{kind_number}
use Rattle.paper.proofs.Cases.{split}
use Rattle.paper.proofs.Left.{one_fewer}
use Rattle.paper.proofs.Telling.{some_one, none_some}
use Rattle.controller.specs.Run.{BusCycle}
use Rattle.recorder.specs.Cycles.{good_cycle, bytes_of}
use Rattle.recorder.specs.Line.{cycle_text, kind_by, cycle_in, line_in}
use Rattle.recorder.specs.Text.{cycles_text, front_cycles, cycles_in}
use Rattle.recorder.specs.Scan.{told_line, line_for, Fronted}
use Rattle.recorder.specs.declared.line.Line.{Line}
use Rattle.recorder.proofs.CycleBytes.{bytes_none, bytes_next}
use Rattle.recorder.proofs.Lines.{line_length, Stands, stands}

-- ---- the text of a list, and the lines in front of a text, one at a time

pub text_none : cycles_text [] ≡ []
unfolding cycles_text
text_none = refl

pub text_next : (x : BusCycle) (xs : List BusCycle) → cycles_text (x ∷ xs) ≡ cycle_text x ++ cycles_text xs
unfolding cycles_text
text_next x xs = refl

pub front_end : (n : ℕ) (t : List ℕ) → line_in t ≡ false → front_cycles n t ≡ []
unfolding front_cycles
front_end zero t e = refl
front_end (suc n) t e = rw e

pub front_next : (n : ℕ) (t : List ℕ) → line_in t ≡ true → front_cycles (suc n) t ≡ cycle_in t ∷ front_cycles n (drop (length (cycle_text (cycle_in t))) t)
unfolding front_cycles
front_next n t e = rw e

pub empty_end : line_in [] ≡ false
unfolding line_in cycle_in kind_by good_cycle
empty_end = refl

-- a line is not longer than the text that it stands in front of
pub stands_fits : (t : List ℕ) → Stands t → length (cycle_text (cycle_in t)) ≤ length t
stands_fits t s =
    let e : length t ≡ length (cycle_text (cycle_in t)) + length (drop (length (cycle_text (cycle_in t))) t)
    = ap length s.starts ∙ length-append (cycle_text (cycle_in t)) (drop (length (cycle_text (cycle_in t))) t) in
    omega arith

-- ---- the line that the code hands on

pub handed_none : (t : List ℕ) {l : Maybe Line} → told_line l ≡ line_for t → l ≡ None → line_in t ≡ false
unfolding line_for
handed_none t e n = split (line_in t)
    (λ y. (
    let f : none ≡ some (cycle_in t, length (cycle_text (cycle_in t))) = ap told_line (sym n) ∙ e ∙ rw y refl in
    absurd (none_some f)))
    (λ y. y)

-- it is the cycle that is read
pub record Handed (t : List ℕ) (l : Line) : Type 0 where
  pub there : line_in t ≡ true
  pub cycle : (kind_number l.kind, l.value) ≡ cycle_in t
  pub long : l.long ≡ length (cycle_text (cycle_in t))

pub handed : (t : List ℕ) {m : Maybe Line} {l : Line} → told_line m ≡ line_for t → m ≡ Some l → Handed t l
unfolding line_for
handed t {l = l} e n =
    let f : told_line (Some l) ≡ line_for t = ap told_line (sym n) ∙ e in
    split (line_in t)
    (λ y. (
    let g : ((kind_number l.kind, l.value), l.long) ≡ (cycle_in t, length (cycle_text (cycle_in t))) = some_one (f ∙ rw y refl) in
    record { there = y; cycle = ap (λ (x : BusCycle × ℕ). x.0) g; long = ap (λ (x : BusCycle × ℕ). x.1) g }))
    (λ y. (
    let g : none ≡ some ((kind_number l.kind, l.value), l.long) = sym (f ∙ rw y refl) in
    absurd (none_some g)))

-- ---- the loop

-- i lines are read, up to the place at, and `rest` are the cycles from there on
pub record Reads (text first out : List ℕ) (i at : ℕ) (rest : List BusCycle) : Type 0 where
  pub inside : at ≤ length text
  pub lines : 2 * i ≤ at
  pub count : i + length rest ≡ length (cycles_in text)
  pub place : at + length (cycles_text rest) ≡ length (cycles_text (cycles_in text))
  pub bytes : sets first 0 (bytes_of (cycles_in text)) ≡ sets out (2 * i) (bytes_of rest)

abbrev pub Reading : List ℕ → List ℕ → List ℕ → ℕ → ℕ → Type 0
Reading text first out i at = Reads text first out i at (front_cycles (length text - i) (drop at text))

pub reading_start : (text o : List ℕ) → Reading text o o 0 0
reading_start text o =
    let e : length text - 0 ≡ length text = omega arith in
    rw e (record { inside = omega arith; lines = omega arith; count = zero-add _; place = zero-add _; bytes = refl })

-- the rest of a text, as the code cuts it
rest_of : (l : List ℕ) (at : ℕ) → take (length l - at) (drop at l) ≡ drop at l
rest_of l at = take_all (length l - at) (drop at l) (rw length-drop (omega arith))

module _ (text first out : List ℕ) (i at : ℕ) where
  -- no cycles are left
  reads_none : Reads text first out i at [] → Fronted text first out i at
  reads_none r = record {
    count = omega (arith, r.count);
    place = omega (arith, rw text_none at r.place);
    bytes = sym (r.bytes ∙ rw bytes_none);
    few = omega (arith, r.inside, r.lines);
  }

  stopped : line_in (drop at text) ≡ false → Reading text first out i at → Fronted text first out i at
  stopped e r = reads_none (rw (front_end (length text - i) (drop at text) e) at r)

  module _ (m : Maybe Line) (e : told_line m ≡ line_for (take (length text - at) (drop at text))) where
    is : told_line m ≡ line_for (drop at text)
    is = e ∙ ap line_for (rest_of text at)

    pub reading_end : m ≡ None → Reading text first out i at → Fronted text first out i at
    reading_end n r = stopped (handed_none (drop at text) is n) r

    module _ {l : Line} (one : m ≡ Some l) where
      line : Handed (drop at text) l
      line = handed (drop at text) is one

      fits : at ≤ length text → at + l.long ≤ length text
      fits h =
          let a = stands_fits (drop at text) (stands (drop at text) line.there) in
          let b = length-drop at text in
          omega (arith, line.long)

      far : 2 ≤ l.long
      far = omega (arith, line.long, (line_length (cycle_in (drop at text))).0)

      reads_next : (rest : List BusCycle) → Reads text first out i at (cycle_in (drop at text) ∷ rest)
          → Reads text first (set (set out (2 * i) (kind_number l.kind)) (2 * i + 1) l.value) (i + 1) (at + l.long) rest
      reads_next rest r =
          let a = rw (text_next (cycle_in (drop at text)) rest) at r.place in
          let b = length-append (cycle_text (cycle_in (drop at text))) (cycles_text rest) in
          let c : 2 * (i + 1) ≡ suc (suc (2 * i)) = omega arith in
          let d : 2 * i + 1 ≡ suc (2 * i) = omega arith in
          let k : kind_number l.kind ≡ (cycle_in (drop at text)).0 = ap (λ (x : BusCycle). x.0) line.cycle in
          let v : l.value ≡ (cycle_in (drop at text)).1 = ap (λ (x : BusCycle). x.1) line.cycle in
          record {
            inside = fits r.inside;
            lines = omega (arith, r.lines, far);
            count = omega (arith, r.count);
            place = omega (arith, line.long);
            bytes = rw (c, d, k, v) (r.bytes ∙ ap (sets out (2 * i)) (bytes_next (cycle_in (drop at text)) rest));
          }

      pub reading_next : Reading text first out i at
          → Reading text first (set (set out (2 * i) (kind_number l.kind)) (2 * i + 1) l.value) (i + 1) (at + l.long)
      reading_next r =
          let s : i < length text = omega (arith, r.lines, far, fits r.inside) in
          let f : front_cycles (length text - i) (drop at text) ≡ cycle_in (drop at text) ∷ front_cycles (length text - (i + 1)) (drop (at + l.long) text)
          = rw (one_fewer i (length text) s, line.long, ← drop-drop (length (cycle_text (cycle_in (drop at text)))) at text)
          (front_next (length text - (i + 1)) (drop at text) line.there) in
          reads_next _ (rw f at r)

-- the place after a line is in the text, and further on
pub within : {text first out : List ℕ} {i at : ℕ} {m : Maybe Line} {l : Line} → Reading text first out i at → told_line m ≡ line_for (take (length text - at) (drop at text))
    → m ≡ Some l → (at + l.long ≤ length text) × (2 ≤ l.long)
within {text} {first} {out} {i} {at} {m} r e one = (fits text first out i at m e one r.inside, far text first out i at m e one)
