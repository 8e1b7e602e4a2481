-- The page groups in any order, on any chip that keeps the laws. Each once: all accepted, the update's own memory and length, and page
-- and column those of the last group. Some of them: the pages sent are as wanted, the others as recorded. A group begins with its page
-- byte and asks nothing of where the chip stands, so the groups go one after the other whatever came before.
-- Assumes nothing.
use Prim.Native.Nat.{ℕ, ◌+◌}
use mathlib.Core.Path.{◌≡◌, refl, sym, ◌∙◌, ap, subst}
use mathlib.Core.Logic.{◌≢◌}
use mathlib.Core.Option.{Option, none, some}
use mathlib.Core.List.{List, [], ◌∷◌, ◌++◌, map, append-nil}
use native.Mathlib.Omega.{arith}
use lib.ListN.{length, take, replicate}
use Rattle.controller.specs.Run.{run_by, numbers_by}
use Rattle.controller.specs.Chip.{Chip, View}
use Rattle.streams.specs.Picture.{differs}
use Rattle.streams.specs.Stretch.{Stretch, Place, end_of, address, after}
use Rattle.streams.specs.Update.{Run, runs, stretch_of, page_work}
use Rattle.streams.specs.Paint.{paint, drawn, drawn_all}
use Rattle.streams.specs.Shape.{Tidy, group}
use Rattle.streams.specs.Demand.{Recorded, Leaves, Cut}
use Rattle.streams.specs.Order.{EachOnce, groups_in, work_in, Mixed, Last, Ends, Reordered}
use Rattle.streams.proofs.Pictures.{recorded_between}
use Rattle.streams.proofs.Runs.{Fits, runs_fit}
use Rattle.streams.proofs.Painting.{wanted_bytes_length, paint_length}
use Rattle.streams.proofs.Running.{along_end, along_accepted, Goes, goes_append, Holds, emit_goes, address_lands, drawn_all_memory, drawn_all_rest}
use Rattle.streams.proofs.Updating.{Kept, kept_all, kept_cut, kept_accepted, update_right}
use Rattle.streams.proofs.Readers.{page_tidy}
use Rattle.streams.proofs.Grouping.{some_runs}
use Rattle.streams.proofs.PageLists.{Paged, paged_first, paged_rest}
use Rattle.streams.proofs.AnyOrder.{none_sent, none_in, work_in_append, order_length, order_paints, order_shows, once_mixed, page_good}

-- ---- one list of stretches after the other

drawn_all_append : {R : Type 0} (W : ℕ) (v : View R) (xs ys : List Stretch) → drawn_all W v (xs ++ ys) ≡ drawn_all W (drawn_all W v xs) ys
unfolding drawn_all
drawn_all_append W v [] ys = refl
drawn_all_append W v (x ∷ xs) ys = drawn_all_append W (drawn W v x) xs ys

after_append : (before : Option Place) (xs ys : List Stretch) → after before (xs ++ ys) ≡ after (after before xs) ys
unfolding after
after_append before [] ys = refl
after_append before (x ∷ xs) ys = after_append (some (end_of x)) xs ys

-- where a view stands
abbrev standing : {R : Type 0} → View R → Place
standing v = record { page = v.page; column = v.column }

-- stretches leave the chip where the last of them ended
drawn_all_ends : {R : Type 0} (W : ℕ) (v : View R) (xs : List Stretch) → some (standing (drawn_all W v xs)) ≡ after (some (standing v)) xs
unfolding drawn_all drawn after
drawn_all_ends W v [] = refl
drawn_all_ends W v (x ∷ xs) = drawn_all_ends W (drawn W v x) xs

-- ---- all groups

module _ {W : ℕ} (C : Chip W) (r w : List ℕ) where
  open C use {State, view, Ready, step}

  pub order_goes : (order : List ℕ) (s : State) → Paged order → Ready s → Kept W r w (view s).memory
      → Goes C (Holds C (Kept W r w) (view s).rest) s (groups_in W r w order) (drawn_all W (view s) (work_in W r w order))
  unfolding groups_in work_in group drawn_all
  order_goes [] s h ready kept = ((ready, kept, refl), (ready, refl))
  order_goes (p ∷ order) s h ready kept =
      let xs = page_work W r w p in
      let ok = page_good W r w p (paged_first p order h) in
      let P = Holds C (Kept W r w) (view s).rest in
      let g = emit_goes C address (address_lands C) (Kept W r w) none xs s (view s) (ready, refl) tt ok.0 (kept_all C r w xs ok.0 ok.1) kept in
      let t = run_by step s (group W r w p) in
      let e = along_end C P s (group W r w p) g.0 in
      let ih = order_goes order t (paged_rest p order h) e.0 e.1 in
      let v = drawn_all W (view s) (page_work W r w p ++ work_in W r w order) in
      let same : drawn_all W (view t) (work_in W r w order) ≡ v =
      ap (λ u. drawn_all W u (work_in W r w order)) g.1.1 ∙ sym (drawn_all_append W (view s) xs (work_in W r w order)) in
      goes_append C P s (group W r w p) (groups_in W r w order) (drawn_all W (view s) xs) v g (λ at.
      subst (λ u. Goes C P t (groups_in W r w order) u) same
      (subst (λ y. Goes C (Holds C (Kept W r w) y) t (groups_in W r w order) (drawn_all W (view t) (work_in W r w order))) e.2 ih))

-- ---- page and column at the end

module _ (W : ℕ) (r w : List ℕ) (p : ℕ) (at : Place) where
  -- after a page's runs: on that page, past the last column that differs
  runs_end : (before : Option Place) (c : ℕ) (x : Run) (xs : List Run) → Tidy (differs W r w p) c W (x ∷ xs) → Fits c W (x ∷ xs)
      → some at ≡ after before (map (stretch_of W w p) (x ∷ xs)) → (at.page ≡ p) × Ends W r w p at.column
  unfolding after stretch_of
  runs_end before c x [] t f e =
      let y : ◌≡◌ {A = Place} at (end_of (stretch_of W w p x)) = cc in
      let z : at.column ≡ x.start + x.size = ap (λ (l : Place). l.column) y ∙ ap (λ (n : ℕ). x.start + n) (wanted_bytes_length W w p x.start x.size) in (
        ap (λ (l : Place). l.page) y,
        record {
          inside = omega (arith, f.2);
          past = omega (arith, f.1);
          last = λ k h. t.0.last k (h ∙ z);
          equal = rw z t.2;
        },
      )
  runs_end before c x (y ∷ ys) t f e = runs_end (some (end_of (stretch_of W w p x))) (x.start + x.size) y ys t.2 f.3 e

  page_end : (before : Option Place) (xs : List Run) → Tidy (differs W r w p) 0 W xs → Fits 0 W xs → xs ≢ []
      → some at ≡ after before (map (stretch_of W w p) xs) → (at.page ≡ p) × Ends W r w p at.column
  page_end before [] t f h e = absurd (h refl)
  page_end before (x ∷ xs) t f h e = runs_end before 0 x xs t f e

  group_ends : (before : Option Place) → group W r w p ≢ [] → some at ≡ after before (page_work W r w p) → (at.page ≡ p) × Ends W r w p at.column
  unfolding page_work
  group_ends before h e =
      let d = differs W r w p in
      page_end before (runs d 0 W) (page_tidy W r w p) (runs_fit d 0 W W (omega arith)) (some_runs W r w p h) e

  -- after all groups: those of the last one
  pub last_ends : (before : Option Place) (order : List ℕ) → Last W r w order p → some at ≡ after before (work_in W r w order)
      → (at.page ≡ p) × Ends W r w p at.column
  unfolding work_in
  last_ends before order l e =
      let done : work_in W r w order ≡ work_in W r w l.before ++ (page_work W r w p ++ []) =
      ap (work_in W r w) l.stands ∙ work_in_append W r w l.before (p ∷ l.later)
      ∙ ap (λ (xs : List Stretch). work_in W r w l.before ++ (page_work W r w p ++ xs)) (none_in W r w l.later l.alone) in
      group_ends (after before (work_in W r w l.before)) l.sends
      (e ∙ ap (after before) done ∙ after_append before (work_in W r w l.before) (page_work W r w p ++ [])
      ∙ ap (after (after before (work_in W r w l.before))) (append-nil (page_work W r w p)))

-- ---- right

module _ {W : ℕ} (C : Chip W) (s : C.State) (r w : List ℕ) (recorded : Recorded C s r) where
  open C use {view, step}

  -- any pages, in any order
  module _ (order : List ℕ) (paged : Paged order) where
    goes : Goes C (Holds C (Kept W r w) (view s).rest) s (groups_in W r w order) (drawn_all W (view s) (work_in W r w order))
    goes = order_goes C r w order s paged recorded.ready (recorded.sized, recorded_between W r w (view s).memory recorded.same)

    -- cut off after any byte
    pub order_cut : (n : ℕ) → Cut C s r w (run_by step s (take n (groups_in W r w order)))
    order_cut = kept_cut C r w s (groups_in W r w order) goes.0

    pub order_accepted : (n : ℕ) → numbers_by step C.number s (take n (groups_in W r w order)) ≡ replicate (length (take n (groups_in W r w order))) 0
    order_accepted = kept_accepted C r w s (groups_in W r w order) goes.0

    painted : (view (run_by step s (groups_in W r w order))).memory ≡ paint W (view s).memory (work_in W r w order)
    painted = ap (λ v. v.memory) goes.1.1 ∙ drawn_all_memory C (work_in W r w order) (view s)

    -- the record, page by page: after these groups it is the wanted picture on their pages and the recorded one on all others
    pub order_leaves : (picture : List ℕ) → Mixed W r w order picture → Leaves C s (groups_in W r w order) picture
    order_leaves picture mixed = record {
      accepted = along_accepted C _ s (groups_in W r w order) goes.0;
      recorded = record {
        ready = goes.1.0;
        sized = rw painted (paint_length W (view s).memory (work_in W r w order) ∙ recorded.sized);
        same = rw painted (order_shows W r w (view s).memory recorded.sized order picture paged recorded.same mixed);
      };
    }

  -- every page that differs once
  module _ (order : List ℕ) (each : EachOnce W r w order) where
    pub order_right : Reordered C s r w order (run_by step s (groups_in W r w order))
    order_right =
        let t = run_by step s (groups_in W r w order) in
        let exact = (goes order each.pages).1.1 in
        let ends : some (standing (view t)) ≡ after (some (standing (view s))) (work_in W r w order) =
        ap (λ v. some (standing v)) exact ∙ drawn_all_ends W (view s) (work_in W r w order) in
        record {
          leaves = order_leaves order each.pages w (once_mixed W r w order each);
          memory = painted order each.pages ∙ order_paints W r w (view s).memory recorded.sized order each ∙ sym (update_right C s r w recorded).memory;
          count = order_length W r w order each;
          exact = exact;
          ends_last = λ p l. last_ends W r w p (standing (view t)) (some (standing (view s))) order l ends;
          ends_none = λ h. ap (run_by step s) (none_sent W r w order each h);
          rest = ap (λ v. v.rest) exact ∙ drawn_all_rest C (work_in W r w order) (view s);
          cut = order_cut order each.pages;
        }
