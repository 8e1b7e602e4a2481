-- The page groups in any order, about plain registers and the controller's own run, and about the bytes that calls of page_group put
-- into their outputs: the streams' theorem at a chip whose sheet makes sense, and each call's bytes are its group.
-- Assumes nothing.
use Prim.Native.Nat.{ℕ, ◌≤◌}
use mathlib.Core.Path.{◌≡◌, refl, sym, ap, subst, ◌∙◌}
use mathlib.Core.Logic.{◌≢◌}
use mathlib.Core.Bool.{◌||◌}
use mathlib.Core.List.{List, [], ◌∷◌}
use native.Mathlib.Omega.{arith}
use lib.Dec.{ltb}
use lib.ListN.{length, take, length-append}
use borrow.Author.Tests.{ltb-false}
use Rattle.paper.specs.Sheet.{Sensible}
use Rattle.paper.specs.declared.sheet.Sheet.{Sheet}
use Rattle.paper.proofs.Threefold.{threefold_0}
use Rattle.registers.specs.declared.Registers.{Registers}
use Rattle.controller.specs.State.{state}
use Rattle.controller.proofs.Chips.{chip_of, moved}
use Rattle.streams.specs.Length.{update_length}
use Rattle.streams.specs.Shape.{group}
use Rattle.streams.specs.Order.{times, EachOnce, groups_in, Mixed}
use Rattle.streams.proofs.Length.{update_most}
use Rattle.streams.proofs.PageLists.{Paged, paged_none, paged_next}
use Rattle.streams.proofs.AnyOrder.{in_none, in_next, order_length, order_writes}
use Rattle.streams.proofs.Ordering.{order_right, order_accepted, order_leaves}
use Rattle.planner.specs.Pictures.{misfit}
use Rattle.planner.specs.Sent.{too_short}
use Rattle.planner.specs.Group.{group_refusal}
use Rattle.planner.specs.Demand3.{Holding, played}
use Rattle.planner.specs.AnyOrder.{InAnyOrder, Follows, Call, Answered, pages_of, total, joined}
use Rattle.planner.proofs.ShutOuts.{bytes_out}
use Rattle.planner.proofs.Demand3Holds.{records, holding, cut_high, sent_is, written_mark}

-- ---- the groups

module _ (k : Sheet) (g : Sensible k) where
  pub groups_in_order : (r : Registers) (m recorded wanted order : List ℕ) → Holding k r m recorded → EachOnce k.width recorded wanted order
      → InAnyOrder k r m recorded wanted order (groups_in k.width recorded wanted order)
  groups_in_order r m recorded wanted order h each =
      let s = state r m in
      let cycles = groups_in k.width recorded wanted order in
      let t = played k r m cycles in
      let p = records k g r m recorded h in
      let u = order_right (chip_of k g) s recorded wanted p order each in
      let mark = written_mark k s cycles (order_writes k.width recorded wanted order each.pages) u.leaves.accepted in
      record {
        accepted = u.leaves.accepted;
        holds = holding k g t wanted u.leaves.recorded;
        memory = u.memory;
        count = u.count;
        most = omega (arith, u.count, update_most k.width recorded wanted);
        last = u.ends_last;
        none = λ e. ap (λ x. x.registers) (u.ends_none e);
        registers = moved t.registers r u.rest (ap (λ v. v.page) u.exact) (ap (λ v. v.column) u.exact) (ap (λ v. v.holder) u.exact) mark;
        cut = λ n. (u.cut n).between;
        cut_accepted = λ n. order_accepted (chip_of k g) s recorded wanted p order each.pages n;
        cut_pin = λ n. cut_high k g s (played k r m (take n cycles)) recorded wanted (u.cut n);
      }

  -- some of the groups, a page twice too: the premises hold with a record that is as wanted on their pages and as recorded on the others
  pub groups_so_far : (r : Registers) (m recorded wanted order picture : List ℕ) → Holding k r m recorded → Paged order → Mixed k.width recorded wanted order picture
      → Follows k r m (groups_in k.width recorded wanted order) picture
  groups_so_far r m recorded wanted order picture h paged mixed =
      let cycles = groups_in k.width recorded wanted order in
      let u = order_leaves (chip_of k g) (state r m) recorded wanted (records k g r m recorded h) order paged picture mixed in
      record { accepted = u.accepted; holds = holding k g (played k r m cycles) picture u.recorded }

-- ---- the calls: what they put into their outputs are the groups of their pages

module _ (k : Sheet) (recorded wanted : List ℕ) where
  pub calls_are : (calls : List Call) → Answered k recorded wanted calls → joined calls ≡ groups_in k.width recorded wanted (pages_of calls)
  unfolding joined
  calls_are [] h = sym (in_none k.width recorded wanted)
  calls_are (c ∷ calls) h =
      rw ((sent_is h.0).1, calls_are calls h.1) (sym (in_next k.width recorded wanted c.page (pages_of calls)))

  -- a call that is answered names no page above 8
  page_inside : (p : ℕ) (out kinds : List ℕ) → group_refusal k.width recorded wanted p out kinds ≡ 0 → p ≤ 8
  unfolding group_refusal
  page_inside p out kinds e =
      ltb-false 8 p
      ((threefold_0 (misfit k.width recorded || misfit k.width wanted) (ltb 8 p) (too_short (group k.width recorded wanted p) out kinds)).0 e).1.0

  calls_paged : (calls : List Call) → Answered k recorded wanted calls → Paged (pages_of calls)
  calls_paged [] h = paged_none
  calls_paged (c ∷ calls) h =
      paged_next c.page (pages_of calls) (page_inside c.page c.out c.kinds (sent_is h.0).0) (calls_paged calls h.1)

  -- the numbers that they answered are the bytes that they put out
  total_is : (calls : List Call) → Answered k recorded wanted calls → total calls ≡ length (joined calls)
  unfolding total joined
  total_is [] h = refl
  total_is (c ∷ calls) h =
      rw length-append (rw (sent_is h.0).1 (omega (arith, (bytes_out h.0).0, total_is calls h.1)))

  -- calls for some pages: the record follows page by page
  pub calls_so_far : Sensible k → (calls : List Call) → Answered k recorded wanted calls → (r : Registers) (m picture : List ℕ) → Holding k r m recorded
      → Mixed k.width recorded wanted (pages_of calls) picture → Follows k r m (joined calls) picture
  calls_so_far g calls answered r m picture h mixed =
      subst (λ cycles. Follows k r m cycles picture) (sym (calls_are calls answered))
      (groups_so_far k g r m recorded wanted (pages_of calls) picture h (calls_paged calls answered) mixed)

  -- one call for every page that differs, in any order, and as many as one likes for pages that don't
  module _ (calls : List Call) (answered : Answered k recorded wanted calls)
      (once : (p : ℕ) → p ≤ 8 → group k.width recorded wanted p ≢ [] → times p (pages_of calls) ≡ 1) where
    calls_each : EachOnce k.width recorded wanted (pages_of calls)
    calls_each = record { once = once; pages = calls_paged calls answered }

    pub calls_in_order : Sensible k → (r : Registers) (m : List ℕ) → Holding k r m recorded → InAnyOrder k r m recorded wanted (pages_of calls) (joined calls)
    calls_in_order g r m h =
        subst (InAnyOrder k r m recorded wanted (pages_of calls)) (sym (calls_are calls answered))
        (groups_in_order k g r m recorded wanted (pages_of calls) h calls_each)

    -- the numbers that they answer add up to the update's length
    pub calls_total : total calls ≡ update_length k.width recorded wanted
    calls_total =
        total_is calls answered ∙ ap length (calls_are calls answered) ∙ order_length k.width recorded wanted (pages_of calls) calls_each
