-- What a run answers, from the number that it is refused with: a refusal leaves all, and where there is room the answers stand in front
-- of the outputs.
-- Assumes nothing.
use Prim.Native.Nat.{ℕ, ◌+◌, ◌*◌, ◌/◌, ◌≤◌}
use mathlib.Core.Path.{◌≡◌, refl, sym, ap, ◌∙◌}
use mathlib.Core.Logic.{◌≢◌}
use mathlib.Core.Bool.{true, false, not, ◌||◌}
use mathlib.Core.List.{List, map}
use native.Mathlib.Nat.{zero-add}
use native.Mathlib.Omega.{arith}
use lib.ListN.{length, length-map}
use lib.Dec.{ltb, eqb}
use lib.Seq.{sets, sets-eq}
use borrow.Author.Tests.{ltb-false, eq-eqb, ne_eqb}
use Rattle.std.specs.Prelude.{Ok, Err}
use Rattle.paper.specs.Refusal.{number_of}
use Rattle.paper.specs.Over.{over}
use Rattle.paper.specs.declared.refusal.Refusal.{Refusal}
use Rattle.paper.specs.declared.sheet.Sheet.{Sheet}
use Rattle.paper.proofs.Telling.{number_some}
use Rattle.paper.proofs.Either.{or_left, or_right}
use Rattle.paper.proofs.Exactly.{past}
use Rattle.registers.specs.Registers.{outside}
use Rattle.registers.specs.declared.Registers.{Registers}
use Rattle.controller.specs.State.{State, state}
use Rattle.controller.specs.declared.turn.Turn.{Turn}
use Rattle.bus.specs.Cycles.{cycles_of, turns}
use Rattle.bus.specs.Run.{Outputs, number_entry, read_entry, byte_entry, fresh_entry, answered, too_short, run_refusal, refusal_of, IsRun}
use Rattle.bus.specs.Filling.{put_from, Filled}
use Rattle.bus.proofs.Playing.{cycles_count, turns_count}

-- the four outputs have room for n answers
record Room (n : ℕ) (o : Outputs) : Type 0 where
  numbers_room : n ≤ length o.numbers
  reads_room : n ≤ length o.reads
  bytes_room : n ≤ length o.bytes
  fresh_room : n ≤ length o.fresh

room : (n : ℕ) (o : Outputs) → too_short n o ≡ false → Room n o
unfolding too_short
room n o e =
    let a = ltb (length o.numbers) n in
    let b = ltb (length o.reads) n in
    let c = ltb (length o.bytes) n in
    let d = ltb (length o.fresh) n in
    let f = or_left (a || b || c) d e in
    let g = or_left (a || b) c f in
    record {
      numbers_room = ltb-false (length o.numbers) n (or_left a b g);
      reads_room = ltb-false (length o.reads) n (or_right a b g);
      bytes_room = ltb-false (length o.bytes) n (or_right (a || b) c f);
      fresh_room = ltb-false (length o.fresh) n (or_right (a || b || c) d e);
    }

-- ---- what is put from entry 0 on stands in front

in_front : (f : Turn → ℕ) (ts : List Turn) (out : List ℕ) → length ts ≤ length out → sets out 0 (map f ts) ≡ over (map f ts) out
in_front f ts out h =
    let e : 0 + length (map f ts) ≤ length out = rw length-map (omega arith) in
    rw zero-add at (sets-eq (map f ts) out 0 e)

put_answered : (ts : List Turn) (o : Outputs) → Room (length ts) o → put_from o 0 ts ≡ answered ts o
put_answered ts o h =
    rw (in_front number_entry ts o.numbers h.numbers_room, in_front read_entry ts o.reads h.reads_room, in_front byte_entry ts o.bytes h.bytes_room, in_front fresh_entry ts o.fresh h.fresh_room) refl

-- ---- the number, as the code finds it: it counts pairs of bytes

module _ (k : Sheet) (r : Registers) (m cycles : List ℕ) (o : Outputs) where
  abbrev pub found : ℕ
  found =
      run_refusal k r (length m)
      (ltb (length o.numbers) (length cycles / 2) || ltb (length o.reads) (length cycles / 2) || ltb (length o.bytes) (length cycles / 2) || ltb (length o.fresh) (length cycles / 2))

  number_is : found ≡ refusal_of k r m cycles o
  unfolding too_short
  number_is = rw (cycles_count cycles) refl

  long_enough : found ≡ 0 → too_short (length (cycles_of cycles)) o ≡ false
  unfolding run_refusal
  long_enough z =
      ((past (too_short (length (cycles_of cycles)) o) 5 0 0 (λ e. omega arith)).0
      ((past (outside k r) 2 _ 0 (λ e. omega arith)).0 ((past (not (eqb (length m) (9 * k.width))) 1 _ 0 (λ e. omega arith)).0 (sym number_is ∙ z)).1).1).0

  pub has_room : found ≡ 0 → (length cycles / 2 ≤ length o.numbers) × (length cycles / 2 ≤ length o.reads) × (length cycles / 2 ≤ length o.bytes) × (length cycles / 2 ≤ length o.fresh)
  has_room z =
      let h : Room (length cycles / 2) o = rw (cycles_count cycles) at (room (length (cycles_of cycles)) o (long_enough z)) in
      (h.numbers_room, h.reads_room, h.bytes_room, h.fresh_room)

  -- ---- the answer

  pub run_refused : {e : Refusal} → found ≡ number_of e → IsRun k r m cycles o (Err e) m o
  run_refused {e} h =
      let q : refusal_of k r m cycles o ≡ number_of e = sym number_is ∙ h in
      let t : eqb (number_of e) 0 ≡ false = ne_eqb (number_of e) 0 (number_some e) in
      record { tells = rw (q, t) refl; leaves = rw (q, t) refl; answers = rw (q, t) refl }

  pub run_given : {r' : Registers} {left : List ℕ} {o' : Outputs} → found ≡ 0 → Filled k (state r m) (cycles_of cycles) o 0 (state r' left) o'
      → IsRun k r m cycles o (Ok r') left o'
  run_given z f =
      let t : eqb (refusal_of k r m cycles o) 0 ≡ true = eq-eqb _ 0 (sym number_is ∙ z) in
      let h : Room (length (turns k (state r m) (cycles_of cycles))) o = rw (turns_count k (state r m) (cycles_of cycles)) (room (length (cycles_of cycles)) o (long_enough z)) in
      record {
        tells = rw (t, ap (λ (s : State). s.registers) f.after) refl;
        leaves = rw t (ap (λ (s : State). s.memory) f.after);
        answers = rw t (f.put ∙ put_answered (turns k (state r m) (cycles_of cycles)) o h);
      }
