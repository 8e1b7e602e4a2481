-- A cycle's line by its kind and its answer taken apart is the line by its answer; and so is a turn's, put.
-- Assumes nothing.
use Prim.Native.Nat.{ℕ}
use mathlib.Core.Path.{◌≡◌, refl, sym, ap, subst, ◌∙◌}
use mathlib.Core.Bool.{Bool, true, false, cond}
use mathlib.Core.Option.{Option, none, some}
use mathlib.Core.List.{List, []}
use lib.Dec.{eqb}
use borrow.Author.Tests.{eqb-true, eqb-false}
use Rattle.paper.specs.Sheet.{sheet0713}
use Rattle.paper.proofs.Cases.{split}
use Rattle.registers.specs.declared.Registers.{Registers}
use Rattle.controller.specs.State.{state, step}
use Rattle.controller.specs.Cycle.{answer}
use Rattle.controller.specs.Turn.{read_flag, byte_read, fresh_flag, IsTurn}
use Rattle.controller.specs.declared.turn.Turn.{Turn}
use Rattle.controller.proofs.Marks.{read_tells, others_unmarked}
use Rattle.controller.proofs.Turning.{turn_steps}
use Rattle.jobs.specs.Header.{cycle_at}
use Rattle.jobs.specs.Text.{read_line}
use Rattle.jobs.specs.Play.{byte_line, line_of, answer_at}
use Rattle.jobs.specs.Output.{Put, line_by, line_most}

-- a mark is found again in its number
flag_again : (f : Bool) → eqb (fresh_flag (some f)) 1 ≡ f
flag_again true = refl
flag_again false = refl

-- the line of a byte without a mark
plain_line : (i : ℕ) (byte : Option ℕ) → cond (eqb (read_flag byte) 0) [] (read_line i (byte_read byte)) ≡ byte_line i byte none
plain_line i (some b) = refl
plain_line i none = refl

-- what is not refused has a mark exactly if it is a data read
pub line_is : (i : ℕ) (r : Registers) (m : List ℕ) (kind value : ℕ) → let o = answer sheet0713 r m kind value in
    line_by i kind o.number (read_flag o.byte) (byte_read o.byte) (fresh_flag o.fresh) ≡ line_of i o
unfolding line_of
line_is i r m kind value =
    let o = answer sheet0713 r m kind value in
    split (eqb o.number 0)
    (λ t. split (eqb kind 3)
    (λ d.
    let e : kind ≡ 3 = eqb-true kind 3 d in
    let q = subst (λ (x : ℕ). (answer sheet0713 r m x value).number ≡ 0 → ((answer sheet0713 r m x value).byte ≡ some r.holder) × ((answer sheet0713 r m x value).fresh ≡ some r.fresh)) (sym e)
    (read_tells sheet0713 r m value) (eqb-true o.number 0 t) in
    rw (t, d, q.0, q.1, flag_again r.fresh) refl)
    (λ d. rw (t, d, others_unmarked sheet0713 r m kind value (eqb-false kind 3 d)) (plain_line i o.byte)))
    (λ t. rw t refl)

-- a turn: the chip after cycle i of a file, and the cycle's line in the output
pub turned : (file : List ℕ) (i : ℕ) {r : Registers} {m m' o o' : List ℕ} {at at' : ℕ} {t : Turn}
    → IsTurn sheet0713 r m (cycle_at file i).0 (cycle_at file i).1 t m' → Put o at (line_by i (cycle_at file i).0 t.number t.read t.byte t.fresh) o' at' line_most
    → (state t.registers m' ≡ step sheet0713 (state r m) (cycle_at file i)) × Put o at (line_of i (answer_at file i (state r m))) o' at' line_most
turned file i {r} {m} {o = o} {o' = o'} {at = at} {at' = at'} q p = (
  turn_steps q,
  subst (λ (l : List ℕ). Put o at l o' at' line_most)
      (ap (λ (x : Turn). line_by i (cycle_at file i).0 x.number x.read x.byte x.fresh) q.tells ∙ line_is i r m (cycle_at file i).0 (cycle_at file i).1) p,
)
