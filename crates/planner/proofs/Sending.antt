-- What update, page_group and redraw answer: refused with a number, or given. The code's tests are those of the definitions, since the
-- length that it knows is the stream's.
-- Assumes nothing.
use Prim.Native.Nat.{ℕ, ◌+◌, ◌*◌, ◌≤◌, ◌<◌}
use mathlib.Core.Path.{◌≡◌, refl, sym, ap, ◌∙◌}
use mathlib.Core.Bool.{Bool, true, false, ◌||◌}
use mathlib.Core.Option.{none}
use mathlib.Core.List.{List, ◌++◌, map}
use native.Mathlib.Nat.{zero-add}
use native.Mathlib.Omega.{arith}
use lib.ListN.{length}
use lib.Dec.{ltb, eqb}
use borrow.Author.Tests.{lt-ltb, le-ltb, ltb-false}
use Rattle.std.specs.Prelude.{Ok, Err}
use Rattle.paper.specs.Refusal.{number_of}
use Rattle.paper.specs.Told.{given}
use Rattle.paper.specs.declared.refusal.Refusal.{Refusal}
use Rattle.paper.specs.declared.refusal.Refusal.TheVariants.{WrongSize, OutsideField, ShortOutput}
use Rattle.paper.proofs.Either.{or_left, or_right}
use Rattle.controller.specs.Run.{BusCycle}
use Rattle.streams.specs.Picture.{differs}
use Rattle.streams.specs.Stretch.{emit}
use Rattle.streams.specs.Update.{update_stream}
use Rattle.streams.specs.Length.{page_length, update_length}
use Rattle.streams.specs.Redraw.{whole_pages, opening, redraw_stream}
use Rattle.streams.specs.Walk.{walk, walk_pages}
use Rattle.streams.specs.Shape.{group}
use Rattle.streams.proofs.Length.{update_length_lem, redraw_length}
use Rattle.streams.proofs.Walking.{update_walk, redraw_walk}
use Rattle.streams.proofs.Grouping.{group_walk, group_length}
use Rattle.planner.specs.Pictures.{misfit}
use Rattle.planner.specs.Sent.{byte_of, kind_of, too_short, Sent, update_refusal, redraw_refusal, IsUpdate, IsRedraw}
use Rattle.planner.specs.Group.{group_refusal, IsGroup}
use Rattle.planner.specs.Output.{shorter, Room, Wrote}
use Rattle.planner.proofs.Writing.{put_over}

-- ---- any stream

sent_refused : (number : ℕ) (r : Refusal) (s : List BusCycle) (out kinds : List ℕ) → number ≡ number_of r → eqb (number_of r) 0 ≡ false → Sent number s out kinds (Err r) out kinds
sent_refused number r s out kinds e h = record { tells = rw (e, h); bytes = rw (e, h); kinds_left = rw (e, h) }

sent_given : (number n : ℕ) (s : List BusCycle) (out kinds : List ℕ) {out' kinds' : List ℕ} → number ≡ 0 → Wrote s out kinds 0 out' kinds' n
    → Sent number s out kinds (Ok n) out' kinds'
sent_given number n s out kinds e w = record {
  tells = rw e (ap given (w.ended ∙ zero-add (length s)));
  bytes = rw e (w.out_is ∙ put_over out (map byte_of s));
  kinds_left = rw e (w.kinds_is ∙ put_over kinds (map kind_of s));
}

-- the code's test of the two outputs
abbrev short : List ℕ → List ℕ → ℕ → Bool
short out kinds need = shorter (length out) (length kinds) need

-- what is long enough for more is long enough
pub still_long : (out kinds most need : ℕ) → need ≤ most → shorter out kinds most ≡ false → shorter out kinds need ≡ false
still_long out kinds most need l h =
    let o = ltb-false out most (or_left (ltb out most) (ltb kinds most) h) in
    let k = ltb-false kinds most (or_right (ltb out most) (ltb kinds most) h) in
    rw (le-ltb out need (omega arith), le-ltb kinds need (omega arith))

module _ (s : List BusCycle) (out kinds : List ℕ) (need : ℕ) (known : need ≡ length s) where
  short_is : {t : Bool} → short out kinds need ≡ t → too_short s out kinds ≡ t
  unfolding too_short
  short_is h = rw known at h

  room_is : short out kinds need ≡ false → Room s out kinds 0
  room_is h = record {
    out_room = omega (arith, ltb-false (length out) need (or_left (ltb (length out) need) (ltb (length kinds) need) h));
    kinds_room = omega (arith, ltb-false (length kinds) need (or_right (ltb (length out) need) (ltb (length kinds) need) h));
  }

-- ---- the update

module _ (W : ℕ) (r w out kinds : List ℕ) where
  pub update_misfit : (misfit W r || misfit W w) ≡ true → IsUpdate W r w out kinds (Err WrongSize) out kinds
  unfolding update_refusal
  update_misfit e = sent_refused _ WrongSize (update_stream W r w) out kinds (rw e) refl

  module _ (fit : (misfit W r || misfit W w) ≡ false) where
    exact : update_length W r w ≡ length (update_stream W r w)
    exact = sym (update_length_lem W r w)

    pub update_short : short out kinds (update_length W r w) ≡ true → IsUpdate W r w out kinds (Err ShortOutput) out kinds
    unfolding update_refusal
    update_short h = sent_refused _ ShortOutput (update_stream W r w) out kinds (rw (fit, short_is (update_stream W r w) out kinds _ exact h)) refl

    pub update_room : short out kinds (update_length W r w) ≡ false → Room (walk_pages W r w 0 9) out kinds 0
    update_room h = rw (update_walk W r w) at (room_is (update_stream W r w) out kinds _ exact h)

    pub update_given : {out' kinds' : List ℕ} {n : ℕ} → short out kinds (update_length W r w) ≡ false
        → Wrote (walk_pages W r w 0 9) out kinds 0 out' kinds' n → IsUpdate W r w out kinds (Ok n) out' kinds'
    unfolding update_refusal
    update_given {n = n} h v =
        sent_given _ n (update_stream W r w) out kinds (rw (fit, short_is (update_stream W r w) out kinds _ exact h)) (rw (update_walk W r w) v)

-- ---- one page's group

module _ (W : ℕ) (r w : List ℕ) (p : ℕ) (out kinds : List ℕ) where
  pub group_misfit : (misfit W r || misfit W w) ≡ true → IsGroup W r w p out kinds (Err WrongSize) out kinds
  unfolding group_refusal
  group_misfit e = sent_refused _ WrongSize (group W r w p) out kinds (rw e) refl

  module _ (fit : (misfit W r || misfit W w) ≡ false) where
    pub group_outside : 8 < p → IsGroup W r w p out kinds (Err OutsideField) out kinds
    unfolding group_refusal
    group_outside h = sent_refused _ OutsideField (group W r w p) out kinds (rw (fit, lt-ltb 8 p h)) refl

    module _ (inside : p ≤ 8) where
      exactly : page_length (differs W r w p) W ≡ length (group W r w p)
      exactly = sym (group_length W r w p)

      pub group_short : short out kinds (page_length (differs W r w p) W) ≡ true → IsGroup W r w p out kinds (Err ShortOutput) out kinds
      unfolding group_refusal
      group_short h =
          sent_refused _ ShortOutput (group W r w p) out kinds (rw (fit, le-ltb 8 p inside, short_is (group W r w p) out kinds _ exactly h)) refl

      pub group_room : short out kinds (page_length (differs W r w p) W) ≡ false → Room (walk W w p (differs W r w p) false 0 0 W) out kinds 0
      group_room h = rw (group_walk W r w p) at (room_is (group W r w p) out kinds _ exactly h)

      pub group_given : {out' kinds' : List ℕ} {n : ℕ} → short out kinds (page_length (differs W r w p) W) ≡ false
          → Wrote (walk W w p (differs W r w p) false 0 0 W) out kinds 0 out' kinds' n → IsGroup W r w p out kinds (Ok n) out' kinds'
      unfolding group_refusal
      group_given {n = n} h v =
          sent_given _ n (group W r w p) out kinds (rw (fit, le-ltb 8 p inside, short_is (group W r w p) out kinds _ exactly h)) (rw (group_walk W r w p) v)

-- ---- the redraw

module _ (W : ℕ) (w : List ℕ) (contrast : ℕ) (out kinds : List ℕ) where
  pub redraw_misfit : misfit W w ≡ true → IsRedraw W w contrast out kinds (Err WrongSize) out kinds
  unfolding redraw_refusal
  redraw_misfit e = sent_refused _ WrongSize (redraw_stream W w contrast) out kinds (rw e) refl

  pub redraw_outside : misfit W w ≡ false → 63 < contrast → IsRedraw W w contrast out kinds (Err OutsideField) out kinds
  unfolding redraw_refusal
  redraw_outside e h = sent_refused _ OutsideField (redraw_stream W w contrast) out kinds (rw (e, lt-ltb 63 contrast h)) refl

  exact_redraw : 4 + 9 * (W + 3) ≡ length (redraw_stream W w contrast)
  exact_redraw = sym (redraw_length W w contrast)

  pub redraw_room : short out kinds (4 + 9 * (W + 3)) ≡ false → Room (opening contrast ++ emit none (whole_pages W w 0 9)) out kinds 0
  redraw_room h = rw (redraw_walk W w contrast) at (room_is (redraw_stream W w contrast) out kinds (4 + 9 * (W + 3)) exact_redraw h)

  module _ (fit : misfit W w ≡ false) (inside : contrast ≤ 63) where
    pub redraw_short : short out kinds (4 + 9 * (W + 3)) ≡ true → IsRedraw W w contrast out kinds (Err ShortOutput) out kinds
    unfolding redraw_refusal
    redraw_short h =
        sent_refused _ ShortOutput (redraw_stream W w contrast) out kinds
        (rw (fit, le-ltb 63 contrast inside, short_is (redraw_stream W w contrast) out kinds (4 + 9 * (W + 3)) exact_redraw h)) refl

    pub redraw_given : {out' kinds' : List ℕ} {n : ℕ} → short out kinds (4 + 9 * (W + 3)) ≡ false
        → Wrote (opening contrast ++ emit none (whole_pages W w 0 9)) out kinds 0 out' kinds' n → IsRedraw W w contrast out kinds (Ok n) out' kinds'
    unfolding redraw_refusal
    redraw_given {n = n} h v =
        sent_given _ n (redraw_stream W w contrast) out kinds
        (rw (fit, le-ltb 63 contrast inside, short_is (redraw_stream W w contrast) out kinds (4 + 9 * (W + 3)) exact_redraw h)) (rw (redraw_walk W w contrast) v)
