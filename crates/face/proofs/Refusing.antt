-- A refusal alters nothing: where a call answers a number other than 0, every byte that it was lent and every out-parameter is what it
-- was. The answer is then a refusal, which gives no value, and the promise of the crate below leaves what it was lent.
-- Assumes nothing.
use Prim.Native.Nat.{ℕ}
use mathlib.Core.Path.{◌≡◌, ◌∙◌, refl, ap}
use mathlib.Core.Logic.{◌≢◌, inl, inr}
use mathlib.Core.List.{List}
use Rattle.std.specs.Prelude.{Result, Ok, Err, Option as Maybe}
use Rattle.paper.specs.Told.{told}
use Rattle.paper.specs.declared.refusal.Refusal.{Refusal}
use Rattle.paper.specs.Sheet.{Sensible}
use Rattle.paper.proofs.Refusing.{told_silent}
use Rattle.paper.specs.declared.sheet.Sheet.{Sheet}
use Rattle.paper.proofs.Answering.{if_split, Silent, refusal_leaves}
use Rattle.controller.specs.Cycle.{outcome}
use Rattle.controller.specs.declared.cycle.Answer.{Answer}
use Rattle.controller.specs.declared.cycle.Answer.TheVariants.{Done, Status, Read}
use Rattle.controller.proofs.Refusals.{cycled_refused_leaves}
use Rattle.glass.proofs.Promised.{shown_refused_leaves}
use Rattle.planner.specs.First.{told_found}
use Rattle.planner.specs.Sent.{Sent}
use Rattle.planner.specs.declared.first.Place.{Place as Found}
use Rattle.planner.proofs.Promised.{sent_refused_leaves}
use Rattle.controller.specs.Run.{BusCycle}
use Rattle.streams.specs.Update.{update_stream}
use Rattle.streams.specs.Redraw.{redraw_stream}
use Rattle.streams.specs.Shape.{group}
use Rattle.state.specs.Unfit.{unfit}
use Rattle.face.specs.Chip.{CycledOn, CycleOut, ShownOn, FrameOut, PowerOut, VoltageOut, VoltageOut0717}
use Rattle.face.specs.Bytes.{ReadOut, WriteOut}
use Rattle.face.specs.Pictures.{FirstOut, LengthOut, UpdateOut, GroupOut, RedrawOut}
use Rattle.face.proofs.Promised.{SentOut}

-- ---- what is found is not refused, or gives nothing

found_silent : (a : Result (Maybe Found) Refusal) → Silent (told_found a)
found_silent (Ok x) = inl refl
found_silent (Err e) = inr refl

pub count_silent : (a : Result ℕ Refusal) → Silent (told a)
count_silent = told_silent

pub writing_silent : (a : Result ℕ Refusal) → Silent (told a)
writing_silent = told_silent

-- ---- the chip

-- a cycle: state, memory, and all three out-parameters
module _ (k : Sheet) (g : Sensible k) (s m : List ℕ) (kind value read byte fresh : ℕ) {s' m' : List ℕ} {read' byte' fresh' r : ℕ}
    (f : CycleOut k s m kind value read byte fresh s' m' read' byte' fresh' r) where
  pub cycle_refused_leaves : r ≢ 0 → (s' ≡ s) × (m' ≡ m) × (read' ≡ read) × (byte' ≡ byte) × (fresh' ≡ fresh)
  cycle_refused_leaves h = by_answer f.answer f.promised refl
    where
      by_answer : (a : Result Answer Refusal) → CycledOn k s m kind value a m' → f.answer ≡ a → (s' ≡ s) × (m' ≡ m) × (read' ≡ read) × (byte' ≡ byte) × (fresh' ≡ fresh)
      by_answer (Ok (Done n)) p e = absurd (h (f.told.number ∙ ap (λ a. (outcome a).number) e))
      by_answer (Ok (Status b)) p e = absurd (h (f.told.number ∙ ap (λ a. (outcome a).number) e))
      by_answer (Ok (Read n b o)) p e = absurd (h (f.told.number ∙ ap (λ a. (outcome a).number) e))
      by_answer (Err n) p e = (
        rw e at f.told.state_left,
        if_split (unfit s) p (λ t q. q.1) (λ t q. (cycled_refused_leaves k g q).1),
        rw e at f.told.read_left,
        rw e at f.told.byte_left,
        rw e at f.told.fresh_left,
      )

module _ (k : Sheet) (s m frame : List ℕ) {frame' : List ℕ} {r : ℕ} (f : FrameOut k s m frame frame' r) where
  pub frame_refused_leaves : r ≢ 0 → frame' ≡ frame
  frame_refused_leaves h = by_answer f.answer f.promised refl
    where
      by_answer : (a : Result (Unit {0}) Refusal) → ShownOn k s m frame a frame' → f.answer ≡ a → frame' ≡ frame
      by_answer (Ok x) p e = absurd (h (f.number ∙ ap (λ a. (told a).number) e))
      by_answer (Err n) p e = if_split (unfit s) p (λ t q. q.1) (λ t q. (shown_refused_leaves q).1)

pub power_state_refused_leaves : (k : Sheet) (s : List ℕ) (answer : ℕ) {answer' r : ℕ} → PowerOut k s answer answer' r → r ≢ 0 → answer' ≡ answer
power_state_refused_leaves k s answer f h = refusal_leaves told_silent f h

pub v0_refused_leaves : (resistor contrast numerator : ℕ) {numerator' r : ℕ} → VoltageOut resistor contrast numerator numerator' r → r ≢ 0 → numerator' ≡ numerator
v0_refused_leaves resistor contrast numerator f h = refusal_leaves told_silent f h

pub v0_0717_refused_leaves : (resistor contrast numerator : ℕ) {numerator' r : ℕ} → VoltageOut0717 resistor contrast numerator numerator' r → r ≢ 0 → numerator' ≡ numerator
v0_0717_refused_leaves resistor contrast numerator f h = refusal_leaves told_silent f h

-- ---- instructions by number

pub read_refused_leaves : (k : Sheet) (awaited byte : ℕ) (out : ℕ × ℕ) {out' : ℕ × ℕ} {r : ℕ} → ReadOut k awaited byte out out' r → r ≢ 0 → out' ≡ out
read_refused_leaves k awaited byte out f h = refusal_leaves told_silent f h

pub write_refused_leaves : (k : Sheet) (number value byte : ℕ) {byte' r : ℕ} → WriteOut k number value byte byte' r → r ≢ 0 → byte' ≡ byte
write_refused_leaves k number value byte f h = refusal_leaves told_silent f h

-- ---- pictures

pub first_refused_leaves : (W : ℕ) (recorded wanted : List ℕ) (out : ℕ × ℕ × ℕ) {out' : ℕ × ℕ × ℕ} {r : ℕ} → FirstOut W recorded wanted out out' r → r ≢ 0 → out' ≡ out
first_refused_leaves W recorded wanted out f h = refusal_leaves found_silent f h

pub length_refused_leaves : (W : ℕ) (recorded wanted : List ℕ) (bytes : ℕ) {bytes' r : ℕ} → LengthOut W recorded wanted bytes bytes' r → r ≢ 0 → bytes' ≡ bytes
length_refused_leaves W recorded wanted bytes f h = refusal_leaves told_silent f h

-- a stream that is refused was not sent
sent_leaves : {number : ℕ} {s : List BusCycle} {out kinds o k : List ℕ} (a : Result ℕ Refusal) → Sent number s out kinds a o k → (told a).number ≢ 0
    → (o ≡ out) × (k ≡ kinds)
sent_leaves (Ok n) p h = absurd (h refl)
sent_leaves (Err n) p h = let e = sent_refused_leaves p in (e.1, e.2)

stream_leaves : (number : ℕ) (s : List BusCycle) (out kinds : List ℕ) (bytes : ℕ) {o k : List ℕ} {bytes' r : ℕ} → SentOut number s out kinds bytes o k bytes' r → r ≢ 0
    → (o ≡ out) × (k ≡ kinds) × (bytes' ≡ bytes)
stream_leaves number s out kinds bytes f h =
    let e = sent_leaves f.answer f.promised (λ z. h (f.answers.number ∙ z)) in
    (e.0, e.1, refusal_leaves told_silent f h)

pub update_refused_leaves : (W : ℕ) (recorded wanted out kinds : List ℕ) (bytes : ℕ) {o k : List ℕ} {bytes' r : ℕ} → UpdateOut W recorded wanted out kinds bytes o k bytes' r → r ≢ 0
    → (o ≡ out) × (k ≡ kinds) × (bytes' ≡ bytes)
update_refused_leaves W recorded wanted out kinds bytes f h = stream_leaves _ (update_stream W recorded wanted) out kinds bytes f h

pub group_refused_leaves : (W : ℕ) (recorded wanted : List ℕ) (page : ℕ) (out kinds : List ℕ) (bytes : ℕ) {o k : List ℕ} {bytes' r : ℕ}
    → GroupOut W recorded wanted page out kinds bytes o k bytes' r → r ≢ 0 → (o ≡ out) × (k ≡ kinds) × (bytes' ≡ bytes)
group_refused_leaves W recorded wanted page out kinds bytes f h = stream_leaves _ (group W recorded wanted page) out kinds bytes f h

pub redraw_refused_leaves : (W : ℕ) (wanted : List ℕ) (contrast : ℕ) (out kinds : List ℕ) (bytes : ℕ) {o k : List ℕ} {bytes' r : ℕ}
    → RedrawOut W wanted contrast out kinds bytes o k bytes' r → r ≢ 0 → (o ≡ out) × (k ≡ kinds) × (bytes' ≡ bytes)
redraw_refused_leaves W wanted contrast out kinds bytes f h = stream_leaves _ (redraw_stream W wanted contrast) out kinds bytes f h
