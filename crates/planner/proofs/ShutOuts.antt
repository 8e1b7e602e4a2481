-- What document 01 wants shut out, shut out by the promises alone, whatever the width: a call that refuses everything, a redraw that
-- does nothing, a made-up length.
-- Assumes nothing.
use Prim.Native.Nat.{ℕ, ◌+◌, ◌*◌, ◌≤◌}
use mathlib.Core.Path.{◌≡◌, ◌∙◌, refl, ap, sym}
use mathlib.Core.Bool.{Bool, true, false, ◌||◌}
use mathlib.Core.List.{List, map}
use lib.Dec.{eqb}
use lib.ListN.{length, get_or}
use Rattle.std.specs.Prelude.{Result, Ok, Err}
use Rattle.paper.specs.Refusal.{wrong_size}
use Rattle.paper.specs.declared.refusal.Refusal.{Refusal}
use Rattle.paper.specs.Over.{over}
use Rattle.paper.proofs.Telling.{given_one, given_by, not_given}
use Rattle.controller.specs.Run.{BusCycle}
use Rattle.streams.specs.Length.{update_length}
use Rattle.streams.proofs.Length.{update_length_lem}
use Rattle.streams.proofs.Walking.{redraw_walk}
use Rattle.planner.specs.Pictures.{misfit}
use Rattle.planner.specs.Count.{IsLength}
use Rattle.planner.specs.Sent.{byte_of, Sent, IsUpdate, IsRedraw}
use Rattle.planner.proofs.Exactly.{RightSize}
use Rattle.planner.proofs.Promised.{update_always, redraw_always}

-- ---- the call that refuses everything: a long enough output must get its stream

never : {e : Refusal} {k : ℕ} → ◌≡◌ {A = Result ℕ Refusal} (Err e) (Ok k) → ⊥
never q = cc

pub update_not_refused : (W : ℕ) (r w out kinds : List ℕ) (e : Refusal) (o k : List ℕ) → RightSize W r w → 9 * (W + 3) ≤ length out → 9 * (W + 3) ≤ length kinds
    → IsUpdate W r w out kinds (Err e) o k → ⊥
update_not_refused W r w out kinds e o k fit g h f = never (update_always W r w out kinds (Err e) o k f fit g h).answer

pub redraw_not_refused : (W : ℕ) (w : List ℕ) (contrast : ℕ) (out kinds : List ℕ) (e : Refusal) (o k : List ℕ) → length w ≡ 9 * W → contrast ≤ 63
    → 4 + 9 * (W + 3) ≤ length out → 4 + 9 * (W + 3) ≤ length kinds → IsRedraw W w contrast out kinds (Err e) o k → ⊥
redraw_not_refused W w contrast out kinds e o k fit low g h f = never (redraw_always W w contrast out kinds (Err e) o k f fit low g h).answer

-- ---- what is answered is what was put out

module _ {number : ℕ} {s : List BusCycle} {out kinds : List ℕ} {n : ℕ} {o k : List ℕ} (f : Sent number s out kinds (Ok n) o k) where
  by_number_lem : (t : Bool) → eqb number 0 ≡ t → (n ≡ length s) × (o ≡ over (map byte_of s) out)
  by_number_lem true e = (given_one (f.tells ∙ rw e refl), f.bytes ∙ rw e refl)
  by_number_lem false e = absurd (not_given {n = number} (sym (f.tells ∙ rw e refl)))

  pub bytes_out : (n ≡ length s) × (o ≡ over (map byte_of s) out)
  bytes_out = by_number_lem (eqb number 0) refl

-- ---- the redraw that does nothing: its first byte is E3, whatever the output held

pub redraw_writes : (W : ℕ) (w : List ℕ) (contrast : ℕ) (out kinds : List ℕ) (n : ℕ) (o k : List ℕ) → IsRedraw W w contrast out kinds (Ok n) o k
    → get_or o 0 0 ≡ 0xe3
redraw_writes W w contrast out kinds n o k f =
    ap (λ (l : List ℕ). get_or l 0 0) (bytes_out f).1
    ∙ ap (λ (s : List BusCycle). get_or (over (map byte_of s) out) 0 0) (redraw_walk W w contrast)

-- ---- a made-up length: the length that is told is the formula, and the number of bytes that an update puts out

pub length_formula : (W : ℕ) (r w : List ℕ) (n : ℕ) → IsLength W r w (Ok n) → n ≡ update_length W r w
length_formula W r w n f = given_by (misfit W r || misfit W w) wrong_size f.tells

pub length_sent : (W : ℕ) (r w out kinds : List ℕ) (n m : ℕ) (o k : List ℕ) → IsLength W r w (Ok n) → IsUpdate W r w out kinds (Ok m) o k → n ≡ m
length_sent W r w out kinds n m o k f g = length_formula W r w n f ∙ sym (update_length_lem W r w) ∙ sym (bytes_out g).0
