-- The new command set, in the words of order 13: what each second byte leaves, that it is spent in every case, which values can be set,
-- what is refused with 4, and what no instruction of the set moves.
-- Assumes nothing.
use Prim.Native.Nat.{ℕ, ◌+◌, ◌-◌, ◌*◌, ◌%◌, ◌≤◌, ◌<◌}
use mathlib.Core.Path.{◌≡◌, ◌∙◌, refl, ap, sym}
use mathlib.Core.Logic.{◌≢◌}
use mathlib.Core.Bool.{false}
use mathlib.Core.Option.{Option, none, some}
use native.Mathlib.Omega.{arith}
use lib.Dec.{leb}
use lib.ListN.{length}
use borrow.Author.Tests.{le-leb, lt-leb, ne_eqb}
use Rattle.paper.specs.Refusal.{unassigned}
use Rattle.paper.specs.Told.{given}
use Rattle.paper.specs.declared.sheet.Sheet.{Sheet}
use Rattle.paper.proofs.Cases.{less}
use Rattle.instructions.specs.Added.{read_added, assigned_added}
use Rattle.instructions.specs.declared.added.Added.{Added}
use Rattle.instructions.specs.declared.added.Added.TheVariants.{Com0Value, DutyValue, InversionValue, FrameInversion}
use Rattle.instructions.specs.declared.added.CommandSet.TheVariants.{New}
use Rattle.instructions.specs.declared.instruction.Awaited.TheVariants as awaited
use Rattle.instructions.proofs.AddedBytes.{added_read_back}
use Rattle.instructions.proofs.Unique.{told_number, number_added}
use Rattle.registers.specs.Beside.{start_beside}
use Rattle.registers.specs.Registers.{with_awaited, with_beside, with_com0, with_duty, with_inversion, outside}
use Rattle.registers.specs.declared.Registers.{Registers}
use Rattle.controller.specs.Added.{com0_set, duty_set, lines_of, executed_added}
use Rattle.controller.specs.Cycle.{instructed_in, instructed_added_by, carried, kept}
use Rattle.controller.specs.State.{State, state, after_by, step, number}
use Rattle.controller.proofs.Cells.{both_false}
use Rattle.controller.proofs.Acting.{CarriedOut, passes, carried_out, does}
use Rattle.controller.proofs.Sets.{added_moves}
use Rattle.controller.proofs.Spelled.{pin_low_starts}
use Rattle.controller.proofs.Readers.{refused_nothing}

-- ---- which values are set

-- initial COM0 for 0 to 79; another value does nothing
pub com0_taken : (now v : ℕ) → v ≤ 79 → com0_set now v ≡ v
unfolding com0_set
com0_taken now v h = rw (le-leb v 79 h)

pub com0_left : (now v : ℕ) → 79 < v → com0_set now v ≡ now
unfolding com0_set
com0_left now v h = rw (lt-leb v 79 h)

-- the duty for 17 to 81
pub duty_taken : (now v : ℕ) → 17 ≤ v → v ≤ 81 → duty_set now v ≡ v
unfolding duty_set
duty_taken now v l h = rw (le-leb 17 v l, le-leb v 81 h)

pub duty_left_below : (now v : ℕ) → v < 17 → duty_set now v ≡ now
unfolding duty_set
duty_left_below now v h = rw (lt-leb 17 v h)

pub duty_left_above : (now v : ℕ) → 81 < v → duty_set now v ≡ now
unfolding duty_set
duty_left_above now v h = rw (lt-leb v 81 h, both_false (leb 17 v))

-- the lines: 0 for frame inversion, else the value and 2
pub frame_lines : lines_of 0 ≡ 0
unfolding lines_of
frame_lines = refl

pub more_lines : (v : ℕ) → 1 ≤ v → v < 32 → lines_of v ≡ v + 2
unfolding lines_of
more_lines v l h = let e : v % 32 ≡ v = omega arith in rw (e, ne_eqb v 0 (λ z. omega arith)) refl

-- every value in range can be set: the byte that sets it
pub record LinesSet (n : ℕ) : Type 0 where
  pub value : ℕ
  pub small : value < 32
  pub sets : lines_of value ≡ n

pub lines_reached : (n : ℕ) → n ≢ 1 → n ≢ 2 → n ≤ 33 → LinesSet n
lines_reached n one two h = less n 3
    (λ l. let e : 0 ≡ n = omega (arith, one, two) in record { value = 0; small = omega arith; sets = frame_lines ∙ e })
    (λ l. record { value = n - 2; small = omega arith; sets = more_lines (n - 2) (omega arith) (omega arith) ∙ (let e : n - 2 + 2 ≡ n = omega arith in e) })

-- ---- a chip in the new set that can be used: the pin high, a memory of nine pages, registers in range

pub record NewChip (k : Sheet) (s : State) : Type 0 where
  pub long : length s.memory ≡ 9 * k.width
  pub ranged : outside k s.registers ≡ false
  pub high : s.registers.pin_low ≡ false
  pub new : s.registers.beside.set ≡ New

module _ (k : Sheet) (s : State) (h : NewChip k s) (b : ℕ) where
  out : CarriedOut k s 0 b
  out = carried_out k s 0 b (passes k s 0 b h.long h.ranged refl (rw h.high))

  -- a byte that is read as i is accepted; memory stays
  pub added_acts : (i : Added) → read_added s.registers.awaited b ≡ given i
      → (number k s (0, b) ≡ 0) × (step k s (0, b) ≡ state (executed_added s.registers i) s.memory)
  unfolding carried kept
  added_acts i e =
      does k s (0, b) (executed_added s.registers i) s.memory
      (out.0 ∙ ap (instructed_in k s.registers b) h.new ∙ ap (λ t. instructed_added_by s.registers t.number t.value) e) out.1

  -- ---- the second bytes, spent in every case

  pub com0_set_lem : s.registers.awaited ≡ awaited.Com0
      → (number k s (0, b) ≡ 0) × (step k s (0, b) ≡ state (with_awaited (with_com0 s.registers (com0_set s.registers.beside.com0 (b % 128))) awaited.Nothing) s.memory)
  com0_set_lem e = added_acts (Com0Value (b % 128)) (ap (λ a. read_added a b) e)

  pub duty_set_lem : s.registers.awaited ≡ awaited.Duty
      → (number k s (0, b) ≡ 0) × (step k s (0, b) ≡ state (with_awaited (with_duty s.registers (duty_set s.registers.beside.duty (b % 128))) awaited.Nothing) s.memory)
  duty_set_lem e = added_acts (DutyValue (b % 128)) (ap (λ a. read_added a b) e)

  pub inversion_set : s.registers.awaited ≡ awaited.Inversion
      → (number k s (0, b) ≡ 0) × (step k s (0, b) ≡ state (with_awaited (with_inversion s.registers (lines_of (b % 32))) awaited.Nothing) s.memory)
  inversion_set e = added_acts (InversionValue (b % 32)) (ap (λ a. read_added a b) e)

  -- ---- every other byte, where nothing is awaited: 4, and nothing changes

  unread_by : (n : ℕ) (x : Option Added) → told_number n x ≡ unassigned → (instructed_added_by s.registers n x).number ≡ unassigned
  unread_by n (some i) e = e
  unread_by n none e = e

  pub other_bytes : b < 256 → s.registers.awaited ≡ awaited.Nothing → assigned_added b ≡ false → (number k s (0, b) ≡ unassigned) × (step k s (0, b) ≡ s)
  unfolding carried
  other_bytes l e u =
      let t = read_added s.registers.awaited b in
      let n : told_number t.number t.value ≡ unassigned = (number_added b l s.registers.awaited).1 ∙ rw (e, u) refl in
      let four : number k s (0, b) ≡ unassigned =
      ap (λ o. o.number) (out.0 ∙ ap (instructed_in k s.registers b) h.new) ∙ unread_by t.number t.value n in
      (four, refused_nothing k s (0, b) (λ z. omega (arith, four)))

  -- ---- whatever the byte, nothing moves but what is awaited and what stands beside

  moved_by : (r : Registers) (n : ℕ) (x : Option Added)
      → let q = after_by r (instructed_added_by r n x).registers in q ≡ with_beside (with_awaited r q.awaited) q.beside
  moved_by r n (some i) = added_moves r i
  moved_by r n none = refl

  pub new_moves : let q = (step k s (0, b)).registers in (q ≡ with_beside (with_awaited s.registers q.awaited) q.beside) × ((step k s (0, b)).memory ≡ s.memory)
  unfolding carried kept
  new_moves =
      let r = s.registers in
      let t = read_added r.awaited b in
      let e : (step k s (0, b)).registers ≡ after_by r (instructed_added_by r t.number t.value).registers
      = ap (λ o. after_by r o.registers) (out.0 ∙ ap (instructed_in k r b) h.new) in
      (e ∙ moved_by r t.number t.value ∙ ap (λ q. with_beside (with_awaited r q.awaited) q.beside) (sym e), out.1)

-- E4, where nothing is awaited: back to frame inversion
pub frame_set : (k : Sheet) (s : State) → NewChip k s → s.registers.awaited ≡ awaited.Nothing
    → (number k s (0, 0xe4) ≡ 0) × (step k s (0, 0xe4) ≡ state (with_inversion s.registers 0) s.memory)
frame_set k s h e = added_acts k s h 0xe4 FrameInversion (ap (λ a. read_added a 0xe4) e ∙ added_read_back FrameInversion 0xe4 refl)

-- pin low, in either set: the three at their start values, and the set stays
pub pin_keeps_set : (k : Sheet) (s : State) → length s.memory ≡ 9 * k.width → outside k s.registers ≡ false
    → (step k s (4, 0)).registers.beside ≡ start_beside s.registers.beside.set
pin_keeps_set k s long e = ap (λ t. t.registers.beside) (pin_low_starts k s long e).1
