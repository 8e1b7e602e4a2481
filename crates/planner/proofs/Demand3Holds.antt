-- Demand 3 holds, about plain registers, the controller's own run, and the bytes that the calls put into their outputs: the
-- streams' theorems at a chip whose sheet makes sense and has a column, where its laws (controller, Chips) meet them; then at each of
-- the two.
-- Assumes nothing.
use Prim.Native.Nat.{ℕ, ◌+◌, ◌*◌, ◌≤◌, ◌<◌}
use mathlib.Core.Path.{◌≡◌, ◌∙◌, refl, ap, sym, subst}
use mathlib.Core.Logic.{◌≢◌}
use mathlib.Core.Bool.{Bool, true, false, cond}
use mathlib.Core.Option.{none, some}
use mathlib.Core.List.{List, [], ◌∷◌, ◌++◌, map}
use native.Mathlib.Omega.{arith}
use lib.Dec.{lit≤, ltb, eqb}
use borrow.Author.Tests.{eqb-true, ne_eqb, ltb-false}
use lib.ListN.{length, take, drop, replicate}
use Rattle.std.specs.Prelude.{Ok}
use Rattle.paper.specs.Told.{given}
use Rattle.paper.specs.Sheet.{Sensible, sheet0713, sheet0717}
use Rattle.paper.specs.declared.sheet.Sheet.{Sheet}
use Rattle.paper.specs.Sheet.{sensible0713, sensible0717}
use Rattle.paper.proofs.Telling.{given_one, not_given}
use Rattle.paper.proofs.Threefold.{threefold_0}
use Rattle.registers.specs.Registers.{PoweredUp}
use Rattle.registers.specs.declared.Registers.{Registers}
use Rattle.registers.proofs.InRange.{powered_inside}
use Rattle.controller.specs.Run.{BusCycle}
use Rattle.controller.specs.Cycle.{answer}
use Rattle.controller.specs.State.{State, state, run, numbers}
use Rattle.controller.proofs.Chips.{chip_of, restart_of, moved, redrawn}
use Rattle.controller.proofs.Marks.{sent_stale, next_tells}
use Rattle.streams.specs.Update.{update, update_stream}
use Rattle.streams.specs.Redraw.{redraw_stream}
use Rattle.streams.specs.Demand.{Recorded, Restarts, Cut}
use Rattle.streams.proofs.Pictures.{same_refl}
use Rattle.streams.proofs.Painting.{update_kind}
use Rattle.streams.proofs.Length.{update_length_lem, update_most, redraw_length}
use Rattle.streams.proofs.Emitting.{Writes, emit_writes}
use Rattle.streams.proofs.Updating.{update_emits, update_right, update_least, update_cut, cut_accepted}
use Rattle.streams.proofs.Redrawing.{redraw_no_read, redraw_has_write, redraw_right, redraw_cut}
use Rattle.planner.specs.Pictures.{misfit}
use Rattle.planner.specs.Sent.{kind_of, byte_of, too_short, Sent, redraw_refusal, IsUpdate, IsRedraw}
use Rattle.planner.specs.Demand3.{PinHigh, Holding, played, pairs, Updates, Redraws, Demand3}
use Rattle.planner.proofs.ShutOuts.{bytes_out, update_not_refused, redraw_not_refused}

-- ---- the calls: what they put into their outputs is the stream

pairs_are : (s : List BusCycle) (x y : List ℕ) → pairs (length s) (map kind_of s ++ x) (map byte_of s ++ y) ≡ s
unfolding pairs
pairs_are [] x y = refl
pairs_are (c ∷ s) x y = ap (λ l. c ∷ l) (pairs_are s x y)

module _ {number : ℕ} {s : List BusCycle} {out kinds : List ℕ} {n : ℕ} {out' kinds' : List ℕ} (sent : Sent number s out kinds (Ok n) out' kinds') where
  sent_by : (t : Bool) → eqb number 0 ≡ t → (number ≡ 0) × (pairs n kinds' out' ≡ s)
  sent_by true e =
      let count : n ≡ length s = given_one (sent.tells ∙ rw e refl) in
      (eqb-true number 0 e, rw (count, sent.kinds_left, sent.bytes, e) (pairs_are s (drop (length (map kind_of s)) kinds) (drop (length (map byte_of s)) out)))
  sent_by false e = absurd (not_given {n = number} (sym (sent.tells ∙ rw e refl)))

  -- a number of bytes is answered where nothing is refused, and the first of both outputs are the stream
  pub sent_is : (number ≡ 0) × (pairs n kinds' out' ≡ s)
  sent_is = sent_by (eqb number 0) refl

-- a redraw that is not refused has a contrast inside its field
contrast_small : (W : ℕ) (wanted : List ℕ) (contrast : ℕ) (out kinds : List ℕ) → redraw_refusal W wanted contrast out kinds ≡ 0 → contrast < 64
unfolding redraw_refusal
contrast_small W wanted contrast out kinds e =
    omega (arith, ltb-false 63 contrast ((threefold_0 (misfit W wanted) (ltb 63 contrast) (too_short (redraw_stream W wanted contrast) out kinds)).0 e).1.0)

-- ---- the mark after accepted cycles that write and never read: what it was where there are none, else stale

pub written_mark : (k : Sheet) (s : State) (cycles : List BusCycle) → Writes cycles → numbers k s cycles ≡ replicate (length cycles) 0
    → (run k s cycles).registers.fresh ≡ cond (eqb (length cycles) 0) s.registers.fresh false
written_mark k s [] w a = refl
written_mark k s (x ∷ xs) w a =
    let some : length (x ∷ xs) ≢ 0 = λ e. omega arith in
    sent_stale k (x ∷ xs) s a w.0 (w.1 (λ e. some (ap length e))) ∙ rw (ne_eqb (length (x ∷ xs)) 0 some) refl

-- ---- a chip whose sheet makes sense

module _ (k : Sheet) (g : Sensible k) where
  -- the premises are the chip's own

  pub restarts : (r : Registers) (m : List ℕ) → PinHigh k r m → Restarts (chip_of k g) (restart_of k g) (state r m)
  restarts r m h = record { restartable = record { long = h.long; ranged = h.ranged; high = h.high; old = h.old }; sized = h.long }

  pub records : (r : Registers) (m recorded : List ℕ) → Holding k r m recorded → Recorded (chip_of k g) (state r m) recorded
  records r m recorded h = record {
    ready = record { restartable = (restarts r m h.pin).restartable; quiet = h.quiet };
    sized = h.pin.long;
    same = h.same;
  }

  -- and back
  pub pin_high : (s : State) → Restarts (chip_of k g) (restart_of k g) s → PinHigh k s.registers s.memory
  pin_high s h = record { ranged = h.restartable.ranged; high = h.restartable.high; long = h.restartable.long; old = h.restartable.old }

  pub holding : (s : State) (picture : List ℕ) → Recorded (chip_of k g) s picture → Holding k s.registers s.memory picture
  holding s picture h = record {
    pin = record { ranged = h.ready.restartable.ranged; high = h.ready.restartable.high; long = h.sized; old = h.ready.restartable.old };
    quiet = h.ready.quiet;
    same = h.same;
  }

  -- cut off, a chip is as after a restart at worst
  pub cut_high : (s t : State) (recorded wanted : List ℕ) → Cut (chip_of k g) s recorded wanted t → PinHigh k t.registers t.memory
  cut_high s t recorded wanted c = pin_high t (record { restartable = c.ready.restartable; sized = c.sized })

  -- power-up meets the premises: of a redraw, and of an update if the memory as lent is the recorded picture

  pub power_up_pin_high : (r : Registers) (m : List ℕ) → PoweredUp k r → length m ≡ 9 * k.width → PinHigh k r m
  power_up_pin_high r m p h = record { ranged = powered_inside k g r p; high = ap (λ s. s.pin_low) p.tells; long = h; old = ap (λ s. s.beside.set) p.tells }

  pub power_up_holds : (r : Registers) (m : List ℕ) → PoweredUp k r → length m ≡ 9 * k.width → Holding k r m m
  power_up_holds r m p h =
      record { pin = power_up_pin_high r m p h; quiet = ap (λ s. s.awaited) p.tells; same = same_refl k.width m }

  -- the update

  pub update_updates : (r : Registers) (m recorded wanted : List ℕ) → Holding k r m recorded → Updates k r m recorded wanted (update_stream k.width recorded wanted)
  update_updates r m recorded wanted h =
      let s = state r m in
      let cycles = update_stream k.width recorded wanted in
      let t = played k r m cycles in
      let p = records r m recorded h in
      let u = update_right (chip_of k g) s recorded wanted p in
      let n = update_length_lem k.width recorded wanted in
      let e = update_emits k.width recorded wanted in
      let kind = update_kind k.width recorded wanted in
      let mark = written_mark k s cycles (subst Writes (sym e) (emit_writes k.width none (update k.width recorded wanted) kind)) u.leaves.accepted in
      record {
        accepted = u.leaves.accepted;
        holds = holding t wanted u.leaves.recorded;
        memory = u.memory;
        registers = moved t.registers r u.rest (ap (λ v. v.page) u.exact) (ap (λ v. v.column) u.exact) (ap (λ v. v.holder) u.exact) mark;
        count = n;
        most = omega (arith, n, update_most k.width recorded wanted);
        of_kind = kind;
        stream = e;
        least = λ xs ok e. omega (arith, n, update_least (chip_of k g) s recorded wanted p xs ok e);
        cut = λ n. (update_cut (chip_of k g) s recorded wanted p n).between;
        cut_accepted = λ n. cut_accepted (chip_of k g) s recorded wanted p n;
        cut_pin = λ n. cut_high s (played k r m (take n cycles)) recorded wanted (update_cut (chip_of k g) s recorded wanted p n);
      }

  pub sent_updates : (r : Registers) (m recorded wanted out kinds : List ℕ) (n : ℕ) (out' kinds' : List ℕ) → Holding k r m recorded
      → IsUpdate k.width recorded wanted out kinds (Ok n) out' kinds' → Updates k r m recorded wanted (pairs n kinds' out')
  sent_updates r m recorded wanted out kinds n out' kinds' h sent =
      subst (Updates k r m recorded wanted) (sym (sent_is sent).1) (update_updates r m recorded wanted h)

  -- the next data read: its mark is the one in the registers
  next_told : (r : Registers) (m : List ℕ) → PinHigh k r m → (answer k r m 3 0).fresh ≡ some r.fresh
  next_told r m h = next_tells k (state r m) (restarts r m h).restartable

  -- after an update of at least one byte it is stale: the first byte that a fitter reads back then is no data
  pub update_stale : (r : Registers) (m recorded wanted : List ℕ) (cycles : List BusCycle) → Updates k r m recorded wanted cycles → 1 ≤ length cycles
      → (answer k (played k r m cycles).registers (played k r m cycles).memory 3 0).fresh ≡ some false
  update_stale r m recorded wanted cycles h some_byte =
      let t = played k r m cycles in
      next_told t.registers t.memory h.holds.pin
      ∙ ap (λ a. some a.fresh) h.registers ∙ rw (ne_eqb (length cycles) 0 (λ e. omega arith)) refl

  -- and after a redraw
  pub redraw_stale : (r : Registers) (m wanted : List ℕ) (contrast : ℕ) (cycles : List BusCycle) → Redraws k r m wanted contrast cycles
      → (answer k (played k r m cycles).registers (played k r m cycles).memory 3 0).fresh ≡ some false
  redraw_stale r m wanted contrast cycles h =
      let t = played k r m cycles in
      next_told t.registers t.memory h.holds.pin ∙ ap (λ a. some a.fresh) h.registers

  module _ (one : 1 ≤ k.width) where
    -- the redraw, which a width of 0 would leave without data

    pub redraw_redraws : (r : Registers) (m wanted : List ℕ) (contrast : ℕ) → PinHigh k r m → contrast < 64 → Redraws k r m wanted contrast (redraw_stream k.width wanted contrast)
    redraw_redraws r m wanted contrast h small =
        let s = state r m in
        let cycles = redraw_stream k.width wanted contrast in
        let t = played k r m cycles in
        let u = redraw_right (chip_of k g) (restart_of k g) one s (restarts r m h) wanted contrast small in
        record {
          accepted = u.leaves.accepted;
          holds = holding t wanted u.leaves.recorded;
          memory = u.memory;
          registers = redrawn t.registers r u.settings u.page u.column u.holder u.contrast u.indicator u.value u.leaves.recorded.ready.quiet
              (sent_stale k cycles s u.leaves.accepted (redraw_no_read k.width wanted contrast) (redraw_has_write k.width wanted contrast one));
          count = redraw_length k.width wanted contrast;
          cut_accepted = λ n. (redraw_cut (chip_of k g) (restart_of k g) one s (restarts r m h) wanted contrast small n).accepted;
          cut_pin = λ n. pin_high (played k r m (take n cycles)) (redraw_cut (chip_of k g) (restart_of k g) one s (restarts r m h) wanted contrast small n).restarts;
        }

    pub sent_redraws : (r : Registers) (m wanted : List ℕ) (contrast : ℕ) (out kinds : List ℕ) (n : ℕ) (out' kinds' : List ℕ) → PinHigh k r m
        → IsRedraw k.width wanted contrast out kinds (Ok n) out' kinds' → Redraws k r m wanted contrast (pairs n kinds' out')
    sent_redraws r m wanted contrast out kinds n out' kinds' h sent =
        subst (Redraws k r m wanted contrast) (sym (sent_is sent).1) (redraw_redraws r m wanted contrast h (contrast_small k.width wanted contrast out kinds (sent_is sent).0))

    -- the mission's own sentence: an update or a redraw cut off after any byte, then a redraw, leaves the wanted picture

    -- after any cycles that leave the pin high
    pub then_redraw : (r : Registers) (m wanted : List ℕ) (contrast : ℕ) (out kinds : List ℕ) (n : ℕ) (out' kinds' : List ℕ) (cycles : List BusCycle)
        → PinHigh k (played k r m cycles).registers (played k r m cycles).memory → IsRedraw k.width wanted contrast out kinds (Ok n) out' kinds'
        → Redraws k (played k r m cycles).registers (played k r m cycles).memory wanted contrast (pairs n kinds' out')
    then_redraw r m wanted contrast out kinds n out' kinds' cycles h sent =
        sent_redraws (played k r m cycles).registers (played k r m cycles).memory wanted contrast out kinds n out' kinds' h sent

    module _ (r : Registers) (m : List ℕ) (u : List ℕ) (contrast : ℕ) (out kinds : List ℕ) (n : ℕ) (out' kinds' : List ℕ)
        (sent : IsRedraw k.width u contrast out kinds (Ok n) out' kinds') where
      pub cut_update_redraws : (recorded wanted : List ℕ) (cycles : List BusCycle) (i : ℕ) → Updates k r m recorded wanted cycles
          → Redraws k (played k r m (take i cycles)).registers (played k r m (take i cycles)).memory u contrast (pairs n kinds' out')
      cut_update_redraws recorded wanted cycles i h = then_redraw r m u contrast out kinds n out' kinds' (take i cycles) (h.cut_pin i) sent

      pub cut_redraw_redraws : (wanted : List ℕ) (given : ℕ) (cycles : List BusCycle) (i : ℕ) → Redraws k r m wanted given cycles
          → Redraws k (played k r m (take i cycles)).registers (played k r m (take i cycles)).memory u contrast (pairs n kinds' out')
      cut_redraw_redraws wanted given cycles i h = then_redraw r m u contrast out kinds n out' kinds' (take i cycles) (h.cut_pin i) sent

    pub demand_3 : Demand3 k (9 * (k.width + 3)) (4 + 9 * (k.width + 3))
    demand_3 = record {
      updates = sent_updates;
      redraws = sent_redraws;
      update_most = λ recorded wanted out kinds n out' kinds' sent. omega (arith, (bytes_out sent).0, update_length_lem k.width recorded wanted, update_most k.width recorded wanted);
      redraw_whole = λ wanted contrast out kinds n out' kinds' sent. (bytes_out sent).0 ∙ redraw_length k.width wanted contrast;
      update_room = λ recorded wanted out kinds n out' kinds' e f. update_not_refused k.width recorded wanted out kinds n out' kinds' (e, f);
      redraw_room = redraw_not_refused k.width;
    }

-- ---- each of the two chips

pub demand_3_0713 : Demand3 sheet0713 1215 1219
demand_3_0713 = demand_3 sheet0713 sensible0713 (lit≤ tt)

pub demand_3_0717 : Demand3 sheet0717 927 931
demand_3_0717 = demand_3 sheet0717 sensible0717 (lit≤ tt)
