-- The update on any chip that keeps the laws: it is accepted and leaves the wanted picture, no list of the kind that does so is
-- shorter, and cut off after any byte it has left every cell recorded or wanted. Each data byte is the wanted one of its cell, so
-- each of them keeps that.
-- Assumes nothing.
use Prim.Native.Nat.{ℕ, zero, suc, ◌+◌, ◌*◌, ◌≤◌, ◌<◌}
use mathlib.Core.Path.{◌≡◌, refl, sym, ◌∙◌, ap}
use mathlib.Core.Logic.{inr}
use mathlib.Core.Option.{none}
use mathlib.Core.List.{List, [], ◌∷◌, ◌++◌}
use native.Mathlib.Omega.{arith}
use lib.ListN.{length, take, replicate}
use lib.Dec.{eqb}
use borrow.Author.Tests.{eqb-true, eqb-false}
use Rattle.paper.proofs.Cases.{split}
use Rattle.controller.specs.Memory.{cell_of, stored}
use Rattle.controller.specs.Run.{BusCycle, run_by, numbers_by}
use Rattle.controller.specs.Chip.{Chip}
use Rattle.controller.proofs.Cells.{place_one, stored_length, stored_other, stored_same}
use Rattle.streams.specs.Picture.{shown, Same, Between}
use Rattle.streams.specs.Stretch.{Stretch, OfKind, address, emit}
use Rattle.streams.specs.Update.{wanted_bytes, update, update_stream}
use Rattle.streams.specs.Length.{update_length}
use Rattle.streams.specs.Demand.{Recorded, Leaves, Updated, Cut}
use Rattle.streams.proofs.Pictures.{shown_is, shown_again, recorded_between}
use Rattle.streams.proofs.Painting.{Wanted, update_kind, update_wanted, update_paints, paint_length}
use Rattle.streams.proofs.Least.{least}
use Rattle.streams.proofs.Running.{Along, along_take, along_end, along_accepted, Holds, Safe, SafeAll, emit_goes, address_lands, drawn_all_rest, kind_goes, kind_memory, leaves_then}

-- ---- what each byte of the update keeps

-- nine pages, and every cell recorded or wanted
abbrev pub Kept : ℕ → List ℕ → List ℕ → List ℕ → Type 0
Kept W r w m = (length m ≡ 9 * W) × Between W r w m

kept_write : (W : ℕ) (r w m : List ℕ) (p c : ℕ) → p ≤ 8 → c < W → Kept W r w m → Kept W r w (stored W m p c (shown W w p c))
unfolding Between
kept_write W r w m p c hp hc k =
    let v = shown W w p c in (
      stored_length W m p c v ∙ k.0,
      λ q j hq hj. split (eqb (W * q + j) (W * p + c))
          (λ t. let i = place_one W q p j c hj hc (eqb-true (W * q + j) (W * p + c) t) in
          inr (rw i.0 (rw i.1 (shown_is W (stored W m p c v) p c
          ∙ ap (cell_of p) (stored_same W m p c v k.0 (omega arith) hc ∙ shown_again W w p c)
          ∙ shown_again W w p c))))
          (λ t. let e : shown W (stored W m p c v) q j ≡ shown W m q j =
          shown_is W (stored W m p c v) q j
          ∙ ap (cell_of q) (stored_other W m p c v (W * q + j) (eqb-false (W * q + j) (W * p + c) t))
          ∙ sym (shown_is W m q j) in
          rw e (k.1 q j hq hj)),
    )

-- its stream is that of its stretches
pub update_emits : (W : ℕ) (r w : List ℕ) → update_stream W r w ≡ emit none (update W r w)
unfolding update_stream
update_emits W r w = refl

module _ {W : ℕ} (C : Chip W) where
  open C use {State, view, Ready, step, number}

  module _ (r w : List ℕ) where
    kept_data : (p c n : ℕ) → p ≤ 8 → c + n ≤ W → Safe C (Kept W r w) p c (wanted_bytes W w p c n)
    unfolding wanted_bytes
    kept_data p c zero hp hc = tt
    kept_data p c (suc n) hp hc = (λ m k. kept_write W r w m p c hp (omega arith) k, kept_data p (suc c) n hp (omega arith))

    pub kept_all : (xs : List Stretch) → OfKind W xs → Wanted W w xs → SafeAll C (Kept W r w) xs
    kept_all [] ok wd = tt
    kept_all (x ∷ xs) ok wd =
        (rw wd.1 (kept_data x.page x.start (length x.content) wd.0 ok.2), kept_all xs ok.3 wd.2)

    -- cycles that keep every cell recorded or wanted all along, cut off after any number of them
    module _ (s : State) (cycles : List BusCycle) (along : Along C (Holds C (Kept W r w) (view s).rest) s cycles) where
      pub kept_cut : (n : ℕ) → Cut C s r w (run_by step s (take n cycles))
      kept_cut n =
          let h = along_end C _ s (take n cycles) (along_take C _ s cycles along n) in
          record { ready = h.0; sized = h.1.0; between = h.1.1; rest = h.2 }

      pub kept_accepted : (n : ℕ) → numbers_by step number s (take n cycles) ≡ replicate (length (take n cycles)) 0
      kept_accepted n = along_accepted C _ s (take n cycles) (along_take C _ s cycles along n)

  module _ (s : State) (r w : List ℕ) (recorded : Recorded C s r) where
    -- ---- right: no cycle is refused, the wanted picture is there, exactly this view, and nothing of the rest moved

    pub update_right : Updated C s r w (run_by step s (update_stream W r w))
    unfolding update_stream
    update_right =
        let m = (view s).memory in
        let ok = update_kind W r w in
        let g = kind_goes C (9 * W) (update W r w) s recorded.ready recorded.sized ok in
        let e = kind_memory C (update W r w) s recorded.ready ok in
        record {
          leaves = record {
            accepted = along_accepted C (Holds C (λ l. length l ≡ 9 * W) (view s).rest) s (emit none (update W r w)) g.0;
            recorded = record {
              ready = g.1.0;
              sized = rw e (paint_length W m (update W r w) ∙ recorded.sized);
              same = rw e (update_paints W r w m recorded.sized recorded.same);
            };
          };
          exact = g.1.1;
          memory = e;
          rest = ap (λ v. v.rest) g.1.1 ∙ drawn_all_rest C (update W r w) (view s);
        }

    -- ---- least: no list of the kind that leaves the wanted picture on the chip is shorter

    pub update_least : (xs : List Stretch) → OfKind W xs → Same W (view (run_by step s (emit none xs))).memory w → update_length W r w ≤ length (emit none xs)
    update_least xs ok same = least W (view s).memory r w xs recorded.same ok (rw (kind_memory C xs s recorded.ready ok) at same)

    -- ---- cut: after any number of the stream's cycles

    update_along : Along C (Holds C (Kept W r w) (view s).rest) s (update_stream W r w)
    unfolding update_stream
    update_along =
        (emit_goes C address (address_lands C) (Kept W r w) none (update W r w) s (view s) (recorded.ready, refl) tt (update_kind W r w)
        (kept_all r w (update W r w) (update_kind W r w) (update_wanted W r w))
        (recorded.sized, recorded_between W r w (view s).memory recorded.same)).0

    pub update_cut : (n : ℕ) → Cut C s r w (run_by step s (take n (update_stream W r w)))
    update_cut = kept_cut r w s (update_stream W r w) update_along

    pub cut_accepted : (n : ℕ) → numbers_by step number s (take n (update_stream W r w)) ≡ replicate (length (take n (update_stream W r w))) 0
    cut_accepted = kept_accepted r w s (update_stream W r w) update_along

  -- ---- updates chain: after whatever leaves a picture, an update of it leaves the next

  pub update_follows : (s : State) (cycles : List BusCycle) (r w : List ℕ) → Leaves C s cycles r → Leaves C s (cycles ++ update_stream W r w) w
  update_follows s cycles r w h = leaves_then C s cycles (update_stream W r w) w h.accepted (update_right (run_by step s cycles) r w h.recorded).leaves
