-- Playing a job a turn at a time: what is put, and what remains to be put.
-- Assumes nothing.
use Prim.Native.Nat.{ℕ, ◌+◌, ◌*◌, ◌-◌, ◌≤◌, ◌<◌}
use mathlib.Core.Path.{◌≡◌, sym, ap, subst, ◌∙◌}
use mathlib.Core.List.{List, ◌++◌, append-nil}
use native.Mathlib.Nat.{zero-add}
use native.Mathlib.Numerals.{add-one}
use native.Mathlib.Omega.{arith}
use lib.ListN.{length, drop, length-append, length-drop}
use lib.Seq.{sets, sets-eq, length-take-le}
use borrow.Author.Tests.{lt-ltb, le-ltb}
use Rattle.std.specs.Prelude.{Result, Ok, Err}
use Rattle.paper.specs.Refusal.{number_of}
use Rattle.paper.specs.Told.{given, told}
use Rattle.paper.specs.declared.refusal.Refusal.{Refusal}
use Rattle.paper.specs.declared.refusal.Refusal.TheVariants.{ShortOutput}
use Rattle.paper.proofs.Refusing.{ok_told}
use Rattle.paper.specs.Sheet.{sheet0713}
use Rattle.paper.proofs.Left.{one_fewer, none_left}
use Rattle.controller.specs.State.{State, powered_up_in, step}
use Rattle.streams.specs.Length.{update_length}
use Rattle.planner.specs.Count.{IsLength}
use Rattle.planner.proofs.Exactly.{right_size}
use Rattle.jobs.specs.Header.{cycle_at, picture2, IsHeader}
use Rattle.jobs.specs.Text.{bad_line, end_line, update_line}
use Rattle.jobs.specs.Memory.{start_memory}
use Rattle.jobs.specs.Play.{line_of, answer_at, ending, text_from, power_up, text_by, text_of, IsPlayed}
use Rattle.jobs.specs.Output.{Put, Remains, Holds, ending_most}
use Rattle.jobs.specs.Texts.{Puts, Turned}
use Rattle.jobs.specs.declared.text.Text.{Text}
use Rattle.jobs.specs.declared.header.Job.{Job}
use Rattle.jobs.proofs.Putting.{sets_append}
use Rattle.jobs.proofs.Texts.{puts_then, puts_most}

-- ---- what remains to be put

pub remains_start : (w o : List ℕ) {at : ℕ} → at ≡ 0 → Remains w o o at w
remains_start w o e = record { bytes = rw e; count = rw (e, zero-add (length w)) }

-- putting the first part of what remains
pub remains_put : {w o₀ o o' t u : List ℕ} {at at' k : ℕ} → Remains w o₀ o at (t ++ u) → Put o at t o' at' k → Remains w o₀ o' at' u
remains_put {w} {o₀} {o} {o'} {t} {u} {at} {at'} h p = record {
  bytes = h.bytes ∙ sets_append o at t u ∙ ap (λ (l : List ℕ). sets l (at + length t) u) (sym p.bytes) ∙ ap (λ (j : ℕ). sets o' j u) (sym p.place);
  count = omega (arith, h.count, p.place, length-append t u);
}

-- putting all that remains
pub remains_end : {w o₀ o o' u : List ℕ} {at r k n : ℕ} → Remains w o₀ o at u → Put o at u o' r k → r ≤ n → Put o₀ 0 w o' r n
remains_end h p b = record { bytes = p.bytes ∙ sym h.bytes; place = omega (arith, h.count, p.place); near = omega (arith, b) }

-- a turn's step in what remains
module _ (file : List ℕ) (j : Job) (i : ℕ) (s : State) where
  text_step : i < j.cycles → text_from file j s i (j.cycles - i)
      ≡ line_of i (answer_at file i s) ++ text_from file j (step sheet0713 s (cycle_at file i)) (i + 1) (j.cycles - (i + 1))
  unfolding text_from
  text_step h = rw (one_fewer i j.cycles h, add-one i)

  pub remains_turn : {w o₀ : List ℕ} {s' : State} {x x' : Text} → i < j.cycles → Remains w o₀ x.out.now x.at (text_from file j s i (j.cycles - i))
      → Turned file i s x s' x' → Remains w o₀ x'.out.now x'.at (text_from file j s' (i + 1) (j.cycles - (i + 1)))
  remains_turn h q t = rw t.after_it (remains_put (rw (text_step h) at q) t.line.put)

  pub remains_ending : {w o₀ o : List ℕ} {at : ℕ} → j.cycles ≤ i → Remains w o₀ o at (text_from file j s i (j.cycles - i)) → Remains w o₀ o at (ending file j s)
  unfolding text_from
  remains_ending h q = rw (none_left i j.cycles h) at q

-- ---- the last lines

module _ (file : List ℕ) (j : Job) (s : State) {x y : Text} (p : Puts x (end_line s.registers) y 277) where
  pub ending_short : j.pictures < 2 → Puts x (ending file j s) y ending_most
  unfolding ending
  ending_short h = rw (lt-ltb _ _ h, append-nil (end_line s.registers)) (puts_most (omega arith) p)

  pub ending_long : {z : Text} {n : ℕ} → 2 ≤ j.pictures → n ≡ update_length 132 s.memory (picture2 file j.cycles)
      → Puts y (update_line n) z 28 → Puts x (ending file j s) z ending_most
  unfolding ending
  ending_long h e q = rw (le-ltb _ _ h, ← e) (puts_then p q)

-- ---- the update's length

module _ (file : List ℕ) (j : Job) (h : Holds file j) (two : 2 ≤ j.pictures) (m : List ℕ) (long : length m ≡ 1188) where
  picture2_long : length (picture2 file j.cycles) ≡ 1188
  picture2_long =
      let d : 1188 ≤ length (drop (8 + 2 * j.cycles + 1188) file) = rw length-drop (omega (arith, h.whole)) in
      length-take-le 1188 (drop (8 + 2 * j.cycles + 1188) file) d

  module _ {a : Result ℕ Refusal} (q : IsLength 132 m (picture2 file j.cycles) a) where
    wanted_told : told a ≡ given (update_length 132 m (picture2 file j.cycles))
    wanted_told = rw ((right_size 132 m (picture2 file j.cycles)).1 (long, picture2_long)) at q.tells

    -- so the planner gives it, and never refuses
    pub wanted_given : a ≡ Ok (update_length 132 m (picture2 file j.cycles))
    wanted_given = ok_told a wanted_told

-- ---- the whole text of a job, and of a file

pub good_whole : (file : List ℕ) (j : Job) {m o₀ o o' u : List ℕ} {at r k n : ℕ} → m ≡ start_memory file j
    → Remains (text_from file j (powered_up_in sheet0713 j.set m) 0 j.cycles) o₀ o at u → Put o at u o' r k → r ≤ n
    → Put o₀ 0 (text_from file j (power_up file j) 0 j.cycles) o' r n
good_whole file j e h q b = rw (← e) (remains_end h q b)

pub text_whole : {w u : List ℕ} {x y z : Text} {k n : ℕ} → x.at ≡ 0 → y.out.ghost_name ≡ x.out.ghost_name
    → Remains w x.out.now y.out.now y.at u → Puts y u z k → z.at ≤ n → Puts x w z n
text_whole {w} {x = x} {z = z} {n = n} start same h q b = record {
  same = q.same ∙ same;
  put = subst (λ (at : ℕ). Put x.out.now at w z.out.now z.at n) (sym start) (remains_end h q.put b);
}

module _ (file : List ℕ) {h : Result Job Refusal} (read : IsHeader file h) where
  pub text_good : {x y : Text} {j : Job} {k : ℕ} → h ≡ Ok j → Puts x (text_from file j (power_up file j) 0 j.cycles) y k → Puts x (text_of file) y k
  unfolding text_of text_by
  text_good e q = rw (← read.tells, e) q

  pub text_bad : {x y : Text} {e : Refusal} {k : ℕ} → h ≡ Err e → Puts x (bad_line (number_of e)) y k → Puts x (text_of file) y k
  unfolding text_of text_by
  text_bad e q = rw (← read.tells, e) q

-- ---- room, or none

module _ (file o : List ℕ) {n k : ℕ} {x y : List ℕ} (measured : Put x 0 (text_of file) y n k) where
  pub play_fits : {o' : List ℕ} {r l : ℕ} → n ≤ length o → Put o 0 (text_of file) o' r l → IsPlayed file o (Ok n) o'
  play_fits h q =
      let e : n ≡ length (text_of file) = omega (arith, measured.place) in
      let f : 0 + length (text_of file) ≤ length o = omega arith in
      let g : length (text_of file) ≤ length o = omega arith in
      record {
        tells = rw (le-ltb _ _ g, e);
        leaves = rw (le-ltb _ _ g) (q.bytes ∙ rw zero-add at (sets-eq (text_of file) o 0 f));
      }

  pub play_short : length o < n → IsPlayed file o (Err ShortOutput) o
  play_short h =
      let g : length o < length (text_of file) = omega (arith, measured.place) in
      record { tells = rw (lt-ltb _ _ g); leaves = rw (lt-ltb _ _ g) }
