-- Cycles put into both outputs, one list after another; and a list that a loop puts piece by piece: what is left, put now, gives
-- what the whole, put at once, gives.
-- Assumes nothing.
use Prim.Native.Nat.{ℕ, ◌+◌, ◌≤◌, ◌<◌}
use mathlib.Core.Path.{◌≡◌, refl, sym, ap, ◌∙◌}
use mathlib.Core.List.{List, [], ◌∷◌, ◌++◌, map, append_assoc, append-nil, map-append}
use native.Mathlib.Nat.{add-zero, zero-add, add_assoc}
use native.Mathlib.Numerals.{add-one}
use native.Mathlib.Omega.{arith}
use lib.ListN.{length, take, drop, set, length-append, length-drop, length-map, take-append-drop}
use lib.Seq.{length-take-le, set_split, take_at, drop-append-add, drop-drop}
use Rattle.paper.specs.Over.{over}
use Rattle.controller.specs.Run.{BusCycle}
use Rattle.planner.specs.Sent.{byte_of, kind_of}
use Rattle.planner.specs.Output.{put, Room, Wrote, two_cycles}

-- ---- one output

put_none : (d : List ℕ) (at : ℕ) → put d at [] ≡ d
unfolding put
put_none d at = simp (add-zero, append-nil, take-append-drop)

put_one : (d : List ℕ) (at b : ℕ) → at < length d → set d at b ≡ put d at (b ∷ [])
unfolding put
put_one d at b h = set_split d at b h ∙ rw (add-one, append_assoc)

put_length : (d : List ℕ) (at : ℕ) (s : List ℕ) → at + length s ≤ length d → length (put d at s) ≡ length d
unfolding put
put_length d at s h =
    let t : length (take at d) ≡ at = length-take-le at d (omega arith) in
    simp (length-append, length-drop, t) (omega arith)

-- one list put after another is both, put at once
put_put : (d : List ℕ) (at : ℕ) (s t : List ℕ) → at + length s ≤ length d → put (put d at s) (at + length s) t ≡ put d at (s ++ t)
unfolding put
put_put d at s t h =
    let k : length (take at d) ≡ at = length-take-le at d (omega arith) in
    let p : List ℕ = take at d ++ s in
    let e : length p ≡ at + length s = length-append (take at d) s ∙ ap (λ (n : ℕ). n + length s) k in
    let f : drop (at + length s + length t) (p ++ drop (at + length s) d) ≡ drop (at + length s + length t) d =
    ap (λ (n : ℕ). drop (n + length t) (p ++ drop (at + length s) d)) (sym e)
    ∙ drop-append-add p (drop (at + length s) d) (length t)
    ∙ drop-drop (length t) (at + length s) d
    in
    rw (take_at p (drop (at + length s) d) (at + length s) e, f) (simp (length-append, append_assoc, add_assoc))

-- a stream put at the start
pub put_over : (d s : List ℕ) → put d 0 s ≡ over s d
unfolding put
put_over d s = rw zero-add

-- ---- both outputs

-- one cycle
pub wrote_one : (out kinds : List ℕ) (at kind byte : ℕ) → Room ((kind, byte) ∷ []) out kinds at
    → Wrote ((kind, byte) ∷ []) out kinds at (set out at byte) (set kinds at kind) (at + 1)
wrote_one out kinds at kind byte r = record {
  ended = refl;
  out_is = put_one out at byte (omega (arith, r.out_room));
  kinds_is = put_one kinds at kind (omega (arith, r.kinds_room));
}

pub wrote_none : (out kinds : List ℕ) (at : ℕ) → Wrote [] out kinds at out kinds at
wrote_none out kinds at = record { ended = sym (add-zero at); out_is = sym (put_none out at); kinds_is = sym (put_none kinds at) }

-- the outputs keep their lengths
wrote_long : {s : List BusCycle} {out kinds : List ℕ} {at : ℕ} {out' kinds' : List ℕ} {n : ℕ} → Room s out kinds at
    → Wrote s out kinds at out' kinds' n → (length out' ≡ length out) × (length kinds' ≡ length kinds)
wrote_long {s} {out} {kinds} {at} m w = (
  ap length w.out_is ∙ put_length out at (map byte_of s) (omega (arith, length-map s byte_of, m.out_room)),
  ap length w.kinds_is ∙ put_length kinds at (map kind_of s) (omega (arith, length-map s kind_of, m.kinds_room)),
)

next_put : (f : BusCycle → ℕ) (s t : List BusCycle) (d d' : List ℕ) (at n : ℕ) → n ≡ at + length s → d' ≡ put d at (map f s)
    → at + length s ≤ length d → put d' n (map f t) ≡ put d at (map f (s ++ t))
next_put f s t d d' at n e i b =
    let l : at + length (map f s) ≤ length d = omega (arith, length-map s f) in
    rw (i, e, map-append f s t, ← put_put d at (map f s) (map f t) l, length-map s f)

-- first s, then t
module _ (s t : List BusCycle) {out kinds : List ℕ} {at : ℕ} where
  pub room_first : Room (s ++ t) out kinds at → Room s out kinds at
  room_first r =
      let e = length-append s t in
      record { out_room = omega (arith, e, r.out_room); kinds_room = omega (arith, e, r.kinds_room) }

  pub room_second : {out' kinds' : List ℕ} {n : ℕ} → Room (s ++ t) out kinds at → Wrote s out kinds at out' kinds' n → Room t out' kinds' n
  room_second r w =
      let e = length-append s t in
      let l = wrote_long (room_first r) w in
      record { out_room = omega (arith, e, r.out_room, w.ended, l.0); kinds_room = omega (arith, e, r.kinds_room, w.ended, l.1) }

  pub wrote_both : {out' kinds' out'' kinds'' : List ℕ} {n m : ℕ} → Room (s ++ t) out kinds at → Wrote s out kinds at out' kinds' n
      → Wrote t out' kinds' n out'' kinds'' m → Wrote (s ++ t) out kinds at out'' kinds'' m
  wrote_both {out'} {kinds'} {n = n} r w v =
      let a = room_first r in
      record {
        ended = omega (arith, length-append s t, w.ended, v.ended);
        out_is = v.out_is ∙ next_put byte_of s t out out' at n w.ended w.out_is a.out_room;
        kinds_is = v.kinds_is ∙ next_put kind_of s t kinds kinds' at n w.ended w.kinds_is a.kinds_room;
      }

-- two cycles, each output written by itself
pub wrote_two : (out kinds : List ℕ) (at first second : ℕ) → Room (two_cycles first second) out kinds at
    → Wrote (two_cycles first second) out kinds at (set (set out at first) (at + 1) second) (set (set kinds at 0) (at + 1) 0) (at + 2)
wrote_two out kinds at first second r =
    let one = wrote_one out kinds at 0 first (room_first ((0, first) ∷ []) ((0, second) ∷ []) r) in
    let two = wrote_one _ _ (at + 1) 0 second (room_second ((0, first) ∷ []) ((0, second) ∷ []) r one) in
    let both = wrote_both ((0, first) ∷ []) ((0, second) ∷ []) r one two in
    record { ended = refl; out_is = both.out_is; kinds_is = both.kinds_is }

-- ---- piece by piece

-- of total, to be put from index at₀ on, rest is left, to be put from index n on
pub record Going (rest total : List BusCycle) (out₀ kinds₀ : List ℕ) (at₀ : ℕ) (out kinds : List ℕ) (n : ℕ) : Type 0 where
  pub ends : n + length rest ≡ at₀ + length total
  pub out_will : put out n (map byte_of rest) ≡ put out₀ at₀ (map byte_of total)
  pub kinds_will : put kinds n (map kind_of rest) ≡ put kinds₀ at₀ (map kind_of total)
  pub out_long : length out ≡ length out₀
  pub kinds_long : length kinds ≡ length kinds₀
  pub room : Room rest out kinds n

pub going_start : {s : List BusCycle} {out kinds : List ℕ} {at : ℕ} → Room s out kinds at → Going s s out kinds at out kinds at
going_start r = record { ends = refl; out_will = refl; kinds_will = refl; out_long = refl; kinds_long = refl; room = r }

-- what is left is s, and then rest
module _ {now : List BusCycle} (s rest : List BusCycle) (is : now ≡ s ++ rest)
    {total : List BusCycle} {out₀ kinds₀ : List ℕ} {at₀ : ℕ} {out kinds : List ℕ} {n : ℕ} (g : Going now total out₀ kinds₀ at₀ out kinds n) where
  both : Room (s ++ rest) out kinds n
  both = rw is at g.room

  -- there is room for s
  pub going_room : Room s out kinds n
  going_room = room_first s rest both

  -- s is put
  pub going_step : {out' kinds' : List ℕ} {m : ℕ} → Wrote s out kinds n out' kinds' m → Going rest total out₀ kinds₀ at₀ out' kinds' m
  going_step {out'} {kinds'} {m} w =
      let a = going_room in
      let l = wrote_long a w in
      record {
        ends = omega (arith, ap length is, length-append s rest, w.ended, g.ends);
        out_will = next_put byte_of s rest out out' n m w.ended w.out_is a.out_room ∙ rw (← is) g.out_will;
        kinds_will = next_put kind_of s rest kinds kinds' n m w.ended w.kinds_is a.kinds_room ∙ rw (← is) g.kinds_will;
        out_long = l.0 ∙ g.out_long;
        kinds_long = l.1 ∙ g.kinds_long;
        room = room_second s rest both w;
      }

-- nothing is left
pub going_end : {rest total : List BusCycle} {out₀ kinds₀ : List ℕ} {at₀ : ℕ} {out kinds : List ℕ} {n : ℕ} → rest ≡ []
    → Going rest total out₀ kinds₀ at₀ out kinds n → Wrote total out₀ kinds₀ at₀ out kinds n
going_end {out = out} {kinds = kinds} {n = n} e g = record {
  ended = omega (arith, ap length e, g.ends);
  out_is = sym (put_none out n) ∙ rw e at g.out_will;
  kinds_is = sym (put_none kinds n) ∙ rw e at g.kinds_will;
}
