-- What the five promises fix. Two answers that a promise admits are equal, and so are the outputs they leave; each number is
-- answered exactly when its line of document 01's table holds and none earlier in the order does, and a refusal leaves both outputs
-- as they were; the first difference is the first in reading order; outputs that are long enough get their stream. All from the
-- promises alone: what is told of an answer has an inverse, and each promise names the number.
-- Assumes nothing.
use Prim.Native.Nat.{ℕ, ◌+◌, ◌*◌, ◌≤◌, ◌<◌}
use mathlib.Core.Path.{◌≡◌, refl, sym, ap, subst, ◌∙◌}
use mathlib.Core.Logic.{◌≢◌, ◌⊎◌, inl, inr, ⊎_elim}
use mathlib.Core.Bool.{Bool, true, false, cond, ◌||◌}
use mathlib.Core.Option.{Option, none, some}
use mathlib.Core.List.{List, map}
use native.Mathlib.Omega.{arith}
use lib.ListN.{length, length-append, length-map}
use lib.Dec.{ltb, eqb}
use borrow.Author.Tests.{le-ltb, eqb-true}
use Rattle.std.specs.Prelude.{Result, Ok, Err, Option as Maybe, Some, None}
use Rattle.paper.specs.Refusal.{number_of}
use Rattle.paper.specs.Told.{given, told}
use Rattle.paper.specs.declared.refusal.Refusal.{Refusal}
use Rattle.paper.specs.declared.refusal.Refusal.TheVariants.{WrongSize as SizeRefused, OutsideField, ShortOutput as OutputRefused}
use Rattle.paper.specs.Over.{over}
use Rattle.paper.proofs.Telling.{apart, told_one, number_one, number_some, some_one, none_some, given_one, refused_one, not_given}
use Rattle.paper.proofs.Refusing.{err_exactly}
use Rattle.paper.proofs.Answering.{refused_number}
use Rattle.paper.proofs.Cases.{split}
use Rattle.paper.proofs.Exactly.{Exactly, then, both, same_number, below, not_below, here, past, nowhere, among, only}
use Rattle.paper.proofs.Threefold.{threefold, threefold_1, threefold_6, threefold_5, threefold_0, threefold_only}
use Rattle.controller.specs.Run.{BusCycle}
use Rattle.streams.specs.Picture.{shown, differs, Same}
use Rattle.streams.specs.Stretch.{Place}
use Rattle.streams.specs.Update.{update_stream}
use Rattle.streams.specs.Length.{page_length, update_length}
use Rattle.streams.specs.Redraw.{redraw_stream}
use Rattle.streams.specs.Shape.{group}
use Rattle.streams.proofs.Pictures.{differs_true, differs_false, same_nowhere, nowhere_same}
use Rattle.streams.proofs.Length.{update_length_lem, update_most, redraw_length}
use Rattle.streams.proofs.Grouping.{group_length, group_most}
use Rattle.planner.specs.Pictures.{misfit}
use Rattle.planner.specs.First.{first_from, first_difference, place_of, told_found, IsFirst}
use Rattle.planner.specs.Count.{IsLength}
use Rattle.planner.specs.Sent.{byte_of, kind_of, too_short, Sent, update_refusal, redraw_refusal, IsUpdate, IsRedraw}
use Rattle.planner.specs.Group.{group_refusal, IsGroup}
use Rattle.planner.specs.declared.first.Place.{Place as Found}
use Rattle.planner.proofs.Exactly.{WrongSize, RightSize, ShortOutput, LongOutput, misfit_yes, misfit_no, wrong_size_lem, right_size, short_output_lem, long_output}
use Rattle.planner.proofs.Scanning.{from_at, none_at, from_none, first_given}

-- ---- what is told of an answer tells all answers apart

found_at : Option Place → Maybe Found
found_at (some x) = Some (record { page = x.page; column = x.column })
found_at none = None

found_back : (x : Maybe Found) → found_at (place_of x) ≡ x
unfolding found_at
found_back (Some x) = refl
found_back None = refl

found_told : (a b : Result (Maybe Found) Refusal) → told_found a ≡ told_found b → a ≡ b
found_told (Ok x) (Ok y) e = ap Ok (apart place_of found_at found_back x y (given_one e))
found_told (Ok x) (Err s) e = absurd (not_given (sym e))
found_told (Err r) (Ok y) e = absurd (not_given e)
found_told (Err r) (Err s) e = ap Err (number_one r s (refused_one e))

pub count_told : (a b : Result ℕ Refusal) → told a ≡ told b → a ≡ b
count_told = told_one

pub count_refused : (e : Refusal) (a : Result ℕ Refusal) → Exactly (a ≡ Err e) ((told a).number ≡ number_of e)
count_refused e a = err_exactly a e

-- ---- two answers that a promise admits are equal

pub first_one : {W : ℕ} {r w : List ℕ} {a b : Result (Maybe Found) Refusal} → IsFirst W r w a → IsFirst W r w b → a ≡ b
first_one {a = a} {b = b} f g = found_told a b (f.tells ∙ sym g.tells)

pub length_one : {W : ℕ} {r w : List ℕ} {a b : Result ℕ Refusal} → IsLength W r w a → IsLength W r w b → a ≡ b
length_one {a = a} {b = b} f g = told_one a b (f.tells ∙ sym g.tells)

pub sent_one : {number : ℕ} {s : List BusCycle} {out kinds : List ℕ} {a b : Result ℕ Refusal} {o k o' k' : List ℕ}
    → Sent number s out kinds a o k → Sent number s out kinds b o' k' → (a ≡ b) × (o ≡ o') × (k ≡ k')
sent_one {a = a} {b = b} f g =
    (told_one a b (f.tells ∙ sym g.tells), f.bytes ∙ sym g.bytes, f.kinds_left ∙ sym g.kinds_left)

pub update_one : (W : ℕ) (r w : List ℕ) {out kinds : List ℕ} {a b : Result ℕ Refusal} {o k o' k' : List ℕ}
    → IsUpdate W r w out kinds a o k → IsUpdate W r w out kinds b o' k' → (a ≡ b) × (o ≡ o') × (k ≡ k')
update_one W r w f g = sent_one f g

pub redraw_one : (W : ℕ) (w : List ℕ) (contrast : ℕ) {out kinds : List ℕ} {a b : Result ℕ Refusal} {o k o' k' : List ℕ}
    → IsRedraw W w contrast out kinds a o k → IsRedraw W w contrast out kinds b o' k' → (a ≡ b) × (o ≡ o') × (k ≡ k')
redraw_one W w contrast f g = sent_one f g

pub group_one : (W : ℕ) (r w : List ℕ) (p : ℕ) {out kinds : List ℕ} {a b : Result ℕ Refusal} {o k o' k' : List ℕ}
    → IsGroup W r w p out kinds a o k → IsGroup W r w p out kinds b o' k' → (a ≡ b) × (o ≡ o') × (k ≡ k')
group_one W r w p f g = sent_one f g

-- ---- the number that an answer tells

first_number : (W : ℕ) (r w : List ℕ) (a : Result (Maybe Found) Refusal) → IsFirst W r w a → (told_found a).number ≡ cond (misfit W r || misfit W w) 1 0
unfolding first_difference
first_number W r w a f = split (misfit W r || misfit W w)
    (λ t. ap (λ x. x.number) f.tells ∙ rw t)
    (λ t. ap (λ x. x.number) f.tells ∙ rw t)

length_number : (W : ℕ) (r w : List ℕ) (a : Result ℕ Refusal) → IsLength W r w a → (told a).number ≡ cond (misfit W r || misfit W w) 1 0
length_number W r w a f = split (misfit W r || misfit W w)
    (λ t. ap (λ x. x.number) f.tells ∙ rw t)
    (λ t. ap (λ x. x.number) f.tells ∙ rw t)

sent_number : (number : ℕ) (s : List BusCycle) (out kinds : List ℕ) (a : Result ℕ Refusal) (o k : List ℕ) → Sent number s out kinds a o k → (told a).number ≡ number
sent_number number s out kinds a o k f = split (eqb number 0)
    (λ t. ap (λ x. x.number) f.tells ∙ rw t (sym (eqb-true number 0 t)))
    (λ t. ap (λ x. x.number) f.tells ∙ rw t)

-- a refusal is answered exactly if its number is told
found_refused : (e : Refusal) (a : Result (Maybe Found) Refusal) → Exactly (a ≡ Err e) ((told_found a).number ≡ number_of e)
found_refused e (Ok x) = (λ q. ap (λ x. (told_found x).number) q, λ q. absurd (number_some e (sym q)))
found_refused e (Err r) = (λ q. ap (λ x. (told_found x).number) q, λ q. ap Err (number_one r e q))

-- a refusal carries a number that is not 0, and leaves both outputs as they were
pub sent_refused_leaves : {number : ℕ} {e : Refusal} {s : List BusCycle} {out kinds o k : List ℕ}
    → Sent number s out kinds (Err e) o k → (number_of e ≢ 0) × (o ≡ out) × (k ≡ kinds)
sent_refused_leaves {number} {e} {s} f =
    let e = refused_number number (number_of e) (length s) f.tells in
    (e.0, f.bytes ∙ rw e.1 refl, f.kinds_left ∙ rw e.1 refl)

-- ---- first_difference and update_length are refused with 1 exactly if a picture is not nine pages, and with nothing else

module _ (W : ℕ) (r w : List ℕ) where
  pub first_1 : (a : Result (Maybe Found) Refusal) → IsFirst W r w a → Exactly (a ≡ Err SizeRefused) (WrongSize W r w)
  first_1 a f =
      then (found_refused SizeRefused a)
      (then (same_number (first_number W r w a f)) (then (here (misfit W r || misfit W w) 1 0 (λ e. omega arith)) (wrong_size_lem W r w)))

  pub first_only : (e : Refusal) → IsFirst W r w (Err e) → e ≡ SizeRefused
  unfolding first_difference
  first_only e f = split (misfit W r || misfit W w)
      (λ t. let q = rw t at f.tells in number_one e SizeRefused (ap (λ x. x.number) q))
      (λ t. let q = rw t at f.tells in absurd (none_some (ap (λ x. x.value) q)))

  pub length_1 : (a : Result ℕ Refusal) → IsLength W r w a → Exactly (a ≡ Err SizeRefused) (WrongSize W r w)
  length_1 a f =
      then (err_exactly a SizeRefused)
      (then (same_number (length_number W r w a f)) (then (here (misfit W r || misfit W w) 1 0 (λ e. omega arith)) (wrong_size_lem W r w)))

  pub length_only : (e : Refusal) → IsLength W r w (Err e) → e ≡ SizeRefused
  length_only e f = split (misfit W r || misfit W w)
      (λ t. let q = rw t at f.tells in number_one e SizeRefused (ap (λ x. x.number) q))
      (λ t. let q = rw t at f.tells in absurd (none_some (ap (λ x. x.value) q)))

-- ---- update is refused with 1, then 5

module _ (W : ℕ) (r w out kinds : List ℕ) where
  -- the two tests
  wrong : Bool
  wrong = misfit W r || misfit W w

  short : Bool
  short = too_short (update_stream W r w) out kinds

  module _ (a : Result ℕ Refusal) (o k : List ℕ) (f : IsUpdate W r w out kinds a o k) where
    update_number : (told a).number ≡ cond wrong 1 (cond short 5 0)
    unfolding update_refusal wrong short
    update_number = sent_number (update_refusal W r w out kinds) (update_stream W r w) out kinds a o k f

    pub update_1 : Exactly (a ≡ Err SizeRefused) (WrongSize W r w)
    unfolding wrong
    update_1 =
        then (err_exactly a SizeRefused)
        (then (same_number update_number)
        (then (here wrong 1 (cond short 5 0) (nowhere short 5 0 1 (λ e. omega arith) (λ e. omega arith))) (wrong_size_lem W r w)))

    pub update_5 : Exactly (a ≡ Err OutputRefused) (RightSize W r w × ShortOutput (update_length W r w) out kinds)
    unfolding wrong short
    update_5 =
        then (err_exactly a OutputRefused)
        (then (same_number update_number)
        (then (past wrong 1 (cond short 5 0) 5 (λ e. omega arith))
        (both (right_size W r w)
        (then (here short 5 0 (λ e. omega arith)) (short_output_lem (update_stream W r w) out kinds (update_length W r w) (update_length_lem W r w))))))

    -- and with none exactly if both are right
    pub update_0 : Exactly ((told a).number ≡ 0) (RightSize W r w × LongOutput (update_length W r w) out kinds)
    unfolding wrong short
    update_0 =
        then (same_number update_number)
        (then (past wrong 1 (cond short 5 0) 0 (λ e. omega arith))
        (both (right_size W r w)
        (then (only short 5 (λ e. omega arith)) (long_output (update_stream W r w) out kinds (update_length W r w) (update_length_lem W r w)))))

  pub update_only : (e : Refusal) (o k : List ℕ) → IsUpdate W r w out kinds (Err e) o k → (e ≡ SizeRefused) ⊎ (e ≡ OutputRefused)
  update_only e o k f = ⊎_elim
      (λ n. inl (number_one e SizeRefused n))
      (λ q. ⊎_elim (λ n. inr (number_one e OutputRefused n)) (λ z. absurd (number_some e z)) (among short 5 0 (number_of e) q))
      (among wrong 1 (cond short 5 0) (number_of e) (update_number (Err e) o k f))

-- ---- page_group and redraw are refused with 1, then 6, then 5

by_number_lem : (e : Refusal) → (number_of e ≡ 1) ⊎ ((number_of e ≡ 6) ⊎ (number_of e ≡ 5)) → (e ≡ SizeRefused) ⊎ ((e ≡ OutsideField) ⊎ (e ≡ OutputRefused))
by_number_lem e h = ⊎_elim
    (λ n. inl (number_one e SizeRefused n))
    (λ g. inr (⊎_elim (λ n. inl (number_one e OutsideField n)) (λ n. inr (number_one e OutputRefused n)) g))
    h

-- a stream's call that three tests refuse
module _ (wrong outside brief : Bool) {s : List BusCycle} {out kinds : List ℕ} {a : Result ℕ Refusal} {o k : List ℕ} (f : Sent (threefold wrong outside brief) s out kinds a o k) where
  three_number : (e : Refusal) → Exactly (a ≡ Err e) (threefold wrong outside brief ≡ number_of e)
  three_number e = then (err_exactly a e) (same_number (sent_number _ s out kinds a o k f))

  three_1 : Exactly (a ≡ Err SizeRefused) (wrong ≡ true)
  three_1 = then (three_number SizeRefused) (threefold_1 wrong outside brief)

  three_6 : Exactly (a ≡ Err OutsideField) ((wrong ≡ false) × (outside ≡ true))
  three_6 = then (three_number OutsideField) (threefold_6 wrong outside brief)

  three_5 : Exactly (a ≡ Err OutputRefused) ((wrong ≡ false) × ((outside ≡ false) × (brief ≡ true)))
  three_5 = then (three_number OutputRefused) (threefold_5 wrong outside brief)

  three_0 : Exactly ((told a).number ≡ 0) ((wrong ≡ false) × ((outside ≡ false) × (brief ≡ false)))
  three_0 = then (same_number (sent_number _ s out kinds a o k f)) (threefold_0 wrong outside brief)

  three_only : (e : Refusal) → a ≡ Err e → (e ≡ SizeRefused) ⊎ ((e ≡ OutsideField) ⊎ (e ≡ OutputRefused))
  three_only e q =
      by_number_lem e (threefold_only wrong outside brief (number_of e) (number_some e) (sym ((three_number e).0 q)))

module _ (W : ℕ) (r w : List ℕ) (p : ℕ) (out kinds : List ℕ) where
  module _ (a : Result ℕ Refusal) (o k : List ℕ) (f : IsGroup W r w p out kinds a o k) where
    pub group_1 : Exactly (a ≡ Err SizeRefused) (WrongSize W r w)
    unfolding group_refusal
    group_1 = then (three_1 (misfit W r || misfit W w) (ltb 8 p) (too_short (group W r w p) out kinds) f) (wrong_size_lem W r w)

    pub group_6 : Exactly (a ≡ Err OutsideField) (RightSize W r w × (8 < p))
    unfolding group_refusal
    group_6 = then (three_6 (misfit W r || misfit W w) (ltb 8 p) (too_short (group W r w p) out kinds) f) (both (right_size W r w) (below p))

    pub group_5 : Exactly (a ≡ Err OutputRefused) (RightSize W r w × ((p ≤ 8) × ShortOutput (page_length (differs W r w p) W) out kinds))
    unfolding group_refusal
    group_5 =
        then (three_5 (misfit W r || misfit W w) (ltb 8 p) (too_short (group W r w p) out kinds) f)
        (both (right_size W r w) (both (not_below p) (short_output_lem (group W r w p) out kinds (page_length (differs W r w p) W) (group_length W r w p))))

    -- and with none exactly if all three are right
    pub group_0 : Exactly ((told a).number ≡ 0) (RightSize W r w × ((p ≤ 8) × LongOutput (page_length (differs W r w p) W) out kinds))
    unfolding group_refusal
    group_0 =
        then (three_0 (misfit W r || misfit W w) (ltb 8 p) (too_short (group W r w p) out kinds) f)
        (both (right_size W r w) (both (not_below p) (long_output (group W r w p) out kinds (page_length (differs W r w p) W) (group_length W r w p))))

  pub group_only : (e : Refusal) (o k : List ℕ) → IsGroup W r w p out kinds (Err e) o k → (e ≡ SizeRefused) ⊎ ((e ≡ OutsideField) ⊎ (e ≡ OutputRefused))
  unfolding group_refusal
  group_only e o k f = three_only (misfit W r || misfit W w) (ltb 8 p) (too_short (group W r w p) out kinds) f e refl

module _ (W : ℕ) (w : List ℕ) (contrast : ℕ) (out kinds : List ℕ) where
  module _ (a : Result ℕ Refusal) (o k : List ℕ) (f : IsRedraw W w contrast out kinds a o k) where
    pub redraw_1 : Exactly (a ≡ Err SizeRefused) (length w ≢ 9 * W)
    unfolding redraw_refusal
    redraw_1 = then (three_1 (misfit W w) (ltb 63 contrast) (too_short (redraw_stream W w contrast) out kinds) f) (misfit_yes W w)

    pub redraw_6 : Exactly (a ≡ Err OutsideField) ((length w ≡ 9 * W) × (63 < contrast))
    unfolding redraw_refusal
    redraw_6 = then (three_6 (misfit W w) (ltb 63 contrast) (too_short (redraw_stream W w contrast) out kinds) f) (both (misfit_no W w) (below contrast))

    pub redraw_5 : Exactly (a ≡ Err OutputRefused) ((length w ≡ 9 * W) × ((contrast ≤ 63) × ShortOutput (4 + 9 * (W + 3)) out kinds))
    unfolding redraw_refusal
    redraw_5 =
        then (three_5 (misfit W w) (ltb 63 contrast) (too_short (redraw_stream W w contrast) out kinds) f)
        (both (misfit_no W w) (both (not_below contrast) (short_output_lem (redraw_stream W w contrast) out kinds (4 + 9 * (W + 3)) (redraw_length W w contrast))))

    pub redraw_0 : Exactly ((told a).number ≡ 0) ((length w ≡ 9 * W) × ((contrast ≤ 63) × LongOutput (4 + 9 * (W + 3)) out kinds))
    unfolding redraw_refusal
    redraw_0 =
        then (three_0 (misfit W w) (ltb 63 contrast) (too_short (redraw_stream W w contrast) out kinds) f)
        (both (misfit_no W w) (both (not_below contrast) (long_output (redraw_stream W w contrast) out kinds (4 + 9 * (W + 3)) (redraw_length W w contrast))))

  pub redraw_only : (e : Refusal) (o k : List ℕ) → IsRedraw W w contrast out kinds (Err e) o k → (e ≡ SizeRefused) ⊎ ((e ≡ OutsideField) ⊎ (e ≡ OutputRefused))
  unfolding redraw_refusal
  redraw_only e o k f = three_only (misfit W w) (ltb 63 contrast) (too_short (redraw_stream W w contrast) out kinds) f e refl

-- ---- a refusal's number is not 0, and it alters nothing

pub first_not_0 : (W : ℕ) (r w : List ℕ) (e : Refusal) → IsFirst W r w (Err e) → number_of e ≢ 0
first_not_0 W r w e f = number_some e

pub length_not_0 : (W : ℕ) (r w : List ℕ) (e : Refusal) → IsLength W r w (Err e) → number_of e ≢ 0
length_not_0 W r w e f = number_some e

pub update_refused_leaves : (W : ℕ) (r w out kinds : List ℕ) (e : Refusal) (o k : List ℕ)
    → IsUpdate W r w out kinds (Err e) o k → (number_of e ≢ 0) × (o ≡ out) × (k ≡ kinds)
update_refused_leaves W r w out kinds e o k f = sent_refused_leaves f

pub group_refused_leaves : (W : ℕ) (r w : List ℕ) (p : ℕ) (out kinds : List ℕ) (e : Refusal) (o k : List ℕ)
    → IsGroup W r w p out kinds (Err e) o k → (number_of e ≢ 0) × (o ≡ out) × (k ≡ kinds)
group_refused_leaves W r w p out kinds e o k f = sent_refused_leaves f

pub redraw_refused_leaves : (W : ℕ) (w : List ℕ) (contrast : ℕ) (out kinds : List ℕ) (e : Refusal) (o k : List ℕ)
    → IsRedraw W w contrast out kinds (Err e) o k → (number_of e ≢ 0) × (o ≡ out) × (k ≡ kinds)
redraw_refused_leaves W w contrast out kinds e o k f = sent_refused_leaves f

-- ---- outputs that are long enough get their stream

-- the stream's length is answered, and its bytes and kinds are in the outputs
pub record Given (s : List BusCycle) (out kinds : List ℕ) (a : Result ℕ Refusal) (o k : List ℕ) : Type 0 where
  pub answer : a ≡ Ok (length s)
  pub bytes : o ≡ over (map byte_of s) out
  pub kinds_left : k ≡ over (map kind_of s) kinds

is_given : {number : ℕ} {s : List BusCycle} {out kinds : List ℕ} {a : Result ℕ Refusal} {o k : List ℕ} → number ≡ 0 → Sent number s out kinds a o k → Given s out kinds a o k
is_given {s = s} {a = a} e f = record {
  answer = told_one a (Ok (length s)) (f.tells ∙ rw e);
  bytes = f.bytes ∙ rw e;
  kinds_left = f.kinds_left ∙ rw e;
}

-- what stands in front of an output is not longer than it
pub over_holds : (f : BusCycle → ℕ) (s : List BusCycle) (out : List ℕ) {left : List ℕ} → left ≡ over (map f s) out → length s ≤ length left
over_holds f s out e = rw (e, length-append) (omega (arith, length-map s f))

long_enough : (s : List BusCycle) (out kinds : List ℕ) → length s ≤ length out → length s ≤ length kinds → too_short s out kinds ≡ false
unfolding too_short
long_enough s out kinds g h = rw (le-ltb (length out) (length s) g, le-ltb (length kinds) (length s) h)

-- nine whole pages are always enough for an update: 1,215 bytes
pub update_always : (W : ℕ) (r w out kinds : List ℕ) (a : Result ℕ Refusal) (o k : List ℕ) → IsUpdate W r w out kinds a o k → RightSize W r w
    → 9 * (W + 3) ≤ length out → 9 * (W + 3) ≤ length kinds → Given (update_stream W r w) out kinds a o k
unfolding update_refusal
update_always W r w out kinds a o k f fit g h =
    let l = update_length_lem W r w in
    let m = update_most W r w in
    is_given (rw ((right_size W r w).1 fit, long_enough (update_stream W r w) out kinds (omega arith) (omega arith))) f

-- a whole page and its address are always enough for a group: 135 bytes
pub group_always : (W : ℕ) (r w : List ℕ) (p : ℕ) (out kinds : List ℕ) (a : Result ℕ Refusal) (o k : List ℕ) → IsGroup W r w p out kinds a o k → RightSize W r w
    → p ≤ 8 → W + 3 ≤ length out → W + 3 ≤ length kinds → Given (group W r w p) out kinds a o k
unfolding group_refusal
group_always W r w p out kinds a o k f fit inside g h =
    let m = group_most W r w p in
    is_given (rw ((right_size W r w).1 fit, le-ltb 8 p inside, long_enough (group W r w p) out kinds (omega arith) (omega arith))) f

-- four bytes more are enough for a redraw: 1,219 bytes
pub redraw_always : (W : ℕ) (w : List ℕ) (contrast : ℕ) (out kinds : List ℕ) (a : Result ℕ Refusal) (o k : List ℕ) → IsRedraw W w contrast out kinds a o k
    → length w ≡ 9 * W → contrast ≤ 63 → 4 + 9 * (W + 3) ≤ length out → 4 + 9 * (W + 3) ≤ length kinds
    → Given (redraw_stream W w contrast) out kinds a o k
unfolding redraw_refusal
redraw_always W w contrast out kinds a o k f fit low g h =
    let l = redraw_length W w contrast in
    is_given
    (rw ((misfit_no W w).1 fit, le-ltb 63 contrast low, long_enough (redraw_stream W w contrast) out kinds (omega arith) (omega arith))) f

-- ---- the first difference is the first in reading order

-- p and c is where the pictures differ, and they show the same at every place before it
pub record FirstAt (W : ℕ) (r w : List ℕ) (p c : ℕ) : Type 0 where
  pub on_page_lem : p ≤ 8
  pub in_page : c < W
  pub differing : shown W r p c ≢ shown W w p c
  pub same_page : (k : ℕ) → k < c → shown W r p k ≡ shown W w p k
  pub pages_before : (q k : ℕ) → q < p → k < W → shown W r q k ≡ shown W w q k

module _ (W : ℕ) (r w : List ℕ) where
  found_is : (x : Option Place) → given x ≡ first_difference W r w → x ≡ first_from W r w 0 9
  unfolding first_difference
  found_is x e = split (misfit W r || misfit W w)
      (λ t. let f = rw t at e in absurd (none_some (sym (ap (λ u. u.value) f))))
      (λ t. let f = rw t at e in some_one (ap (λ u. u.value) f))

  pub first_at : (p c : ℕ) → IsFirst W r w (Ok (Some (record { page = p; column = c }))) → FirstAt W r w p c
  first_at p c f =
      let l = from_at W r w 0 9 p c (sym (found_is _ f.tells)) in
      record {
        on_page_lem = omega (arith, l.low);
        in_page = l.in_page;
        differing = differs_true W r w p c l.hit;
        same_page = λ k h. differs_false W r w p k (l.same_page k h);
        pages_before = λ q k h b. differs_false W r w q k (l.pages_before q k (omega arith) h b);
      }

  nothing_same : IsFirst W r w (Ok None) → Same W r w
  nothing_same f = nowhere_same W r w (λ p c hp hc. none_at W r w 0 9 p c (sym (found_is none f.tells)) (omega arith) (omega arith) hc)

  same_nothing : RightSize W r w → Same W r w → first_difference W r w ≡ given none
  same_nothing fit s =
      first_given W r w ((right_size W r w).1 fit) ∙ ap given (from_none W r w 0 9 (λ p c hp hc. same_nowhere W r w s p c (omega arith) hc))

  -- nothing is found exactly if the pictures are the same
  pub first_nothing : (a : Result (Maybe Found) Refusal) → IsFirst W r w a → RightSize W r w → Exactly (a ≡ Ok None) (Same W r w)
  first_nothing a f fit =
      (λ e. nothing_same (subst (IsFirst W r w) e f), λ s. found_told a (Ok None) (f.tells ∙ same_nothing fit s))
