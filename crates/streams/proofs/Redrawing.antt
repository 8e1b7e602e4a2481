-- The redraw on any chip that keeps the laws, from any state that it may start from: E3 spends what is awaited, and from there on
-- the chip is ready but for the one byte after 81. So it is accepted, leaves the wanted picture, and may start over after any cut;
-- and a redraw mends whatever was cut before it.
-- Assumes nothing.
use Prim.Native.Nat.{ℕ, zero, suc, ◌+◌, ◌-◌, ◌*◌, ◌≤◌, ◌<◌}
use mathlib.Core.Path.{◌≡◌, refl, ◌∙◌, ap}
use mathlib.Core.Logic.{inr}
use mathlib.Core.Option.{none}
use mathlib.Core.List.{List, ◌++◌}
use native.Mathlib.Omega.{arith}
use lib.ListN.{length, take}
use Rattle.controller.specs.Run.{BusCycle, run_by}
use Rattle.controller.specs.Chip.{nop_cycle, off_cycle, ask_cycle, contrast_cycle, View, Chip, Restart}
use Rattle.controller.proofs.Marks.{NoRead, HasWrite}
use Rattle.streams.specs.Picture.{shown}
use Rattle.streams.specs.Stretch.{emit}
use Rattle.streams.specs.Update.{wanted_bytes, update_stream}
use Rattle.streams.specs.Redraw.{whole_page, whole_pages, redraw, redraw_stream}
use Rattle.streams.specs.Paint.{paint, last_of, drawn, drawn_all}
use Rattle.streams.specs.Demand.{Recorded, Restarts, Leaves, Stopped, Redrawn}
use Rattle.streams.proofs.Painting.{wanted_bytes_length, paint_length, redraw_kind, redraw_paints}
use Rattle.streams.proofs.Running.{Along, along_take, along_end, along_map, along_accepted, Holds, Sized, drawn_all_rest, kind_goes, kind_memory, leaves_then}
use Rattle.streams.proofs.Updating.{update_cut, cut_accepted}
use Rattle.streams.proofs.Emitting.{unread, emit_no_read, emit_has_write}

-- ---- where nine whole pages leave the chip

last_wanted : (W : ℕ) (w : List ℕ) (p h c n : ℕ) → 1 ≤ n → last_of h (wanted_bytes W w p c n) ≡ shown W w p (c + n - 1)
unfolding last_of wanted_bytes
last_wanted W w p h c zero l = absurd (omega arith)
last_wanted W w p h c (suc zero) l = ap (shown W w p) (omega arith)
last_wanted W w p h c (suc (suc n)) l = last_wanted W w p (shown W w p c) (suc c) (suc n) (omega arith) ∙ ap (shown W w p) (omega arith)

module _ {R : Type 0} (W : ℕ) (w : List ℕ) (v : View R) where
  drawn_page : (drawn_all W v (redraw W w)).page ≡ 8
  unfolding drawn_all drawn redraw whole_pages whole_page
  drawn_page = refl

  drawn_column : (drawn_all W v (redraw W w)).column ≡ W
  unfolding drawn_all drawn redraw whole_pages whole_page
  drawn_column = omega (arith, wanted_bytes_length W w 8 0 W)

  drawn_holder : 1 ≤ W → (drawn_all W v (redraw W w)).holder ≡ shown W w 8 (W - 1)
  unfolding drawn_all drawn redraw whole_pages whole_page
  drawn_holder pos = last_wanted W w 8 _ 0 W pos ∙ ap (shown W w 8) (omega arith)

-- ---- it writes, and never reads

module _ (W : ℕ) (w : List ℕ) (k : ℕ) where
  pub redraw_no_read : NoRead (redraw_stream W w k)
  unfolding redraw_stream
  redraw_no_read = let no = unread 0 (omega arith) in (no, (no, (no, (no, emit_no_read none (redraw W w)))))

  pub redraw_has_write : 1 ≤ W → HasWrite (redraw_stream W w k)
  unfolding redraw_stream redraw whole_pages whole_page
  redraw_has_write pos = inr (inr (inr (inr (emit_has_write none (whole_page W w 0) _ (omega (arith, wanted_bytes_length W w 0 0 W))))))

module _ {W : ℕ} (C : Chip W) (D : Restart C) (pos : 1 ≤ W) where
  open C use {State, view, Ready, step, number}

  ready_restarts : (s : State) → Ready s → length (view s).memory ≡ 9 * W → Restarts C D s
  ready_restarts s h e = record { restartable = D.ready_restartable s h; sized = e }

  -- ---- the redraw

  module _ (s : State) (start : Restarts C D s) (w : List ℕ) (k : ℕ) (small : k < 64) where
    redraw_goes : Along C (Restarts C D) s (redraw_stream W w k) × Redrawn C D s w k (run_by step s (redraw_stream W w k))
    unfolding redraw_stream
    redraw_goes =
        let xs = redraw W w in
        let s1 = step s nop_cycle in
        let l1 = D.nop_law s start.restartable in
        let s2 = step s1 off_cycle in
        let l2 = D.off_law s1 l1.1 in
        let sa = step s2 ask_cycle in
        let la = D.ask_law s2 l2.1 in
        let s3 = step sa (contrast_cycle k) in
        let l3 = D.contrast_law s2 k l2.1 small in
        let e1 : (view s1).memory ≡ (view s).memory = ap (λ v. v.memory) l1.2 in
        let e2 : (view s2).memory ≡ (view s).memory = ap (λ v. v.memory) l2.2 ∙ e1 in
        let ea : (view sa).memory ≡ (view s).memory = ap (λ v. v.memory) la.2 ∙ e2 in
        let e3 : (view s3).memory ≡ (view s).memory = ap (λ v. v.memory) l3.2 ∙ e2 in
        let ok = redraw_kind W w pos in
        let g = kind_goes C (9 * W) xs s3 l3.1 (ap length e3 ∙ start.sized) ok in
        let t = run_by step s3 (emit none xs) in
        let m : (view t).memory ≡ paint W (view s).memory xs = kind_memory C xs s3 l3.1 ok ∙ ap (λ (l : List ℕ). paint W l xs) e3 in
        let r : (view t).rest ≡ (view s3).rest = ap (λ v. v.rest) g.1.1 ∙ drawn_all_rest C xs (view s3) in
        let along : Along C (Restarts C D) s (redraw_stream W w k) = (
          start,
          l1.0,
          (
            ready_restarts s1 l1.1 (ap length e1 ∙ start.sized),
            l2.0,
            (
              ready_restarts s2 l2.1 (ap length e2 ∙ start.sized),
              la.0,
              (
                record { restartable = la.1; sized = ap length ea ∙ start.sized },
                l3.0,
                along_map C (Holds C (Sized C (9 * W)) (view s3).rest) (Restarts C D) (λ u h. ready_restarts u h.0 h.1) s3 (emit none xs) g.0,
              ),
            ),
          ),
        ) in (
          along,
          record {
            leaves = record {
              accepted = along_accepted C (Restarts C D) s (redraw_stream W w k) along;
              recorded = record {
                ready = g.1.0;
                sized = rw m (paint_length W (view s).memory xs ∙ start.sized);
                same = rw m (redraw_paints W w (view s).memory pos start.sized);
              };
            };
            memory = m;
            page = rw g.1.1 (drawn_page W w (view s3));
            column = rw g.1.1 (drawn_column W w (view s3));
            holder = rw g.1.1 (drawn_holder W w (view s3) pos);
            contrast = ap D.contrast r ∙ l3.6;
            indicator = ap D.indicator r ∙ l3.5 ∙ l2.5;
            value = ap D.value r ∙ l3.4 ∙ l2.4 ∙ l1.4;
            settings = ap D.settings r ∙ l3.3 ∙ l2.3 ∙ l1.3;
          },
        )

    pub redraw_right : Redrawn C D s w k (run_by step s (redraw_stream W w k))
    redraw_right = redraw_goes.1

    -- cut after any byte, it may start over
    pub redraw_cut : (n : ℕ) → Stopped C D s (take n (redraw_stream W w k))
    redraw_cut n =
        let a = along_take C (Restarts C D) s (redraw_stream W w k) redraw_goes.0 n in
        record {
          accepted = along_accepted C (Restarts C D) s (take n (redraw_stream W w k)) a;
          restarts = along_end C (Restarts C D) s (take n (redraw_stream W w k)) a;
        }

  -- ---- mended: whatever was cut, and then a redraw

  pub mended : (s : State) (cycles : List BusCycle) → Stopped C D s cycles → (u : List ℕ) (j : ℕ) → j < 64 → Leaves C s (cycles ++ redraw_stream W u j) u
  mended s cycles h u j small =
      leaves_then C s cycles (redraw_stream W u j) u h.accepted (redraw_right (run_by step s cycles) h.restarts u j small).leaves

  pub mended_update : (s : State) (r w : List ℕ) (n : ℕ) (u : List ℕ) (j : ℕ) → Recorded C s r → j < 64
      → Leaves C s (take n (update_stream W r w) ++ redraw_stream W u j) u
  mended_update s r w n u j h small =
      let c = update_cut C s r w h n in
      mended s (take n (update_stream W r w)) (record {
        accepted = cut_accepted C s r w h n;
        restarts = ready_restarts _ c.ready c.sized;
      }) u j small

  pub mended_redraw : (s : State) (w : List ℕ) (k n : ℕ) (u : List ℕ) (j : ℕ) → Restarts C D s → k < 64 → j < 64
      → Leaves C s (take n (redraw_stream W w k) ++ redraw_stream W u j) u
  mended_redraw s w k n u j h hk small = mended s (take n (redraw_stream W w k)) (redraw_cut s h w k hk n) u j small

  -- ---- redraws chain too: after whatever leaves a picture, a redraw leaves the next

  pub leaves_stops : (s : State) (cycles : List BusCycle) (r : List ℕ) → Leaves C s cycles r → Stopped C D s cycles
  leaves_stops s cycles r h = record {
    accepted = h.accepted;
    restarts = ready_restarts _ h.recorded.ready h.recorded.sized;
  }

  pub redraw_follows : (s : State) (cycles : List BusCycle) (r w : List ℕ) (k : ℕ) → Leaves C s cycles r → k < 64 → Leaves C s (cycles ++ redraw_stream W w k) w
  redraw_follows s cycles r w k h small = mended s cycles (leaves_stops s cycles r h) w k small
