-- The cycles of a list of bytes a turn at a time: what is left, played and put now, gives the whole.
-- Assumes nothing.
use Prim.Native.Nat.{ℕ, suc, ◌+◌, ◌*◌, ◌/◌, ◌≤◌, ◌<◌}
use mathlib.Core.Path.{◌≡◌, refl, sym, ap, ◌∙◌}
use mathlib.Core.List.{List, [], ◌∷◌}
use native.Mathlib.Numerals.{add-one}
use native.Mathlib.Omega.{arith}
use lib.ListN.{length, get_or, drop, length-drop}
use lib.Seq.{drop-cons}
use Rattle.paper.specs.declared.sheet.Sheet.{Sheet}
use Rattle.registers.specs.declared.Registers.{Registers}
use Rattle.controller.specs.Run.{BusCycle}
use Rattle.controller.specs.State.{State, state, step, run}
use Rattle.controller.specs.Turn.{IsTurn}
use Rattle.controller.specs.declared.turn.Turn.{Turn}
use Rattle.controller.proofs.Turning.{turn_steps}
use Rattle.bus.specs.Cycles.{cycles_of, turns}
use Rattle.bus.specs.Run.{Outputs}
use Rattle.bus.specs.Filling.{put_at, put_from, TurnPut, Filled}

-- ---- bytes as cycles

-- the two bytes at a place, and the rest
pub two : (bytes : List ℕ) (j : ℕ) → suc j < length bytes → drop j bytes ≡ get_or bytes j 0 ∷ get_or bytes (suc j) 0 ∷ drop (suc (suc j)) bytes
two bytes j h =
    drop-cons bytes j 0 (omega arith) ∙ ap (λ (l : List ℕ). get_or bytes j 0 ∷ l) (drop-cons bytes (suc j) 0 h)

-- two bytes are a cycle, fewer are none
pub cycles_next : (kind value : ℕ) (rest : List ℕ) → cycles_of (kind ∷ value ∷ rest) ≡ (kind, value) ∷ cycles_of rest
unfolding cycles_of
cycles_next kind value rest = refl

pub few : (bytes : List ℕ) → length bytes ≤ 1 → cycles_of bytes ≡ []
unfolding cycles_of
few [] h = refl
few (kind ∷ []) h = refl
few (kind ∷ value ∷ rest) h = absurd (omega arith)

-- as many as there are pairs of bytes
pub cycles_count : (bytes : List ℕ) → length (cycles_of bytes) ≡ length bytes / 2
unfolding cycles_of
cycles_count [] = refl
cycles_count (kind ∷ []) = refl
cycles_count (kind ∷ value ∷ rest) = let e = cycles_count rest in omega arith

pub turns_count : (k : Sheet) (s : State) (xs : List BusCycle) → length (turns k s xs) ≡ length xs
turns_count k s [] = refl
turns_count k s (x ∷ xs) = ap suc (turns_count k (step k s x) xs)

-- the cycle at index i, and those after it; past the last one there are none
pub cycles_at : (bytes : List ℕ) (i : ℕ) → i < length bytes / 2
    → cycles_of (drop (2 * i) bytes) ≡ (get_or bytes (2 * i) 0, get_or bytes (2 * i + 1) 0) ∷ cycles_of (drop (2 * (i + 1)) bytes)
cycles_at bytes i h =
    let e : 2 * (i + 1) ≡ suc (suc (2 * i)) = omega arith in
    let f : 2 * i + 1 ≡ suc (2 * i) = omega arith in
    ap cycles_of (two bytes (2 * i) (omega arith)) ∙ rw (e, f) (cycles_next (get_or bytes (2 * i) 0) (get_or bytes (suc (2 * i)) 0) (drop (suc (suc (2 * i))) bytes))

pub cycles_end : (bytes : List ℕ) (i : ℕ) → length bytes / 2 ≤ i → cycles_of (drop (2 * i) bytes) ≡ []
cycles_end bytes i h = few (drop (2 * i) bytes) (rw (length-drop (2 * i) bytes) (omega arith))

-- ---- a turn

-- what a cycle answers goes into the outputs at entry i
pub turn_put : {k : Sheet} {r : Registers} {m left : List ℕ} {kind value : ℕ} {t : Turn} (o : Outputs) (i : ℕ) → IsTurn k r m kind value t left
    → TurnPut k (state r m) (kind, value) o i (state t.registers left) (put_at o i t)
turn_put o i q = record { after = turn_steps q; put = ap (put_at o i) q.tells }

-- ---- the whole list

-- what is left from index i on, played and put now, gives this chip and these outputs
pub record Left (k : Sheet) (s : State) (o : Outputs) (i : ℕ) (bytes : List ℕ) (s₀ : State) (o₀ : Outputs) : Type 0 where
  pub played : run k s (cycles_of (drop (2 * i) bytes)) ≡ run k s₀ (cycles_of bytes)
  pub put : put_from o i (turns k s (cycles_of (drop (2 * i) bytes))) ≡ put_from o₀ 0 (turns k s₀ (cycles_of bytes))

module _ {k : Sheet} {s : State} {o : Outputs} {i : ℕ} {bytes : List ℕ} {s₀ : State} {o₀ : Outputs} (left : Left k s o i bytes s₀ o₀) where
  pub left_next : {s' : State} {o' : Outputs} → i < length bytes / 2 → TurnPut k s (get_or bytes (2 * i) 0, get_or bytes (2 * i + 1) 0) o i s' o'
      → Left k s' o' (i + 1) bytes s₀ o₀
  left_next {s'} {o'} h t = record {
    played = rw t.after (rw (cycles_at bytes i h) at left.played);
    put =
        ap (λ (j : ℕ). put_from o' j (turns k s' (cycles_of (drop (2 * (i + 1)) bytes)))) (add-one i)
        ∙ ap (λ (x : State). put_from o' (suc i) (turns k x (cycles_of (drop (2 * (i + 1)) bytes)))) t.after
        ∙ ap (λ (x : Outputs). put_from x (suc i) (turns k (step k s (get_or bytes (2 * i) 0, get_or bytes (2 * i + 1) 0)) (cycles_of (drop (2 * (i + 1)) bytes)))) t.put
        ∙ ap (λ (xs : List BusCycle). put_from o i (turns k s xs)) (sym (cycles_at bytes i h))
        ∙ left.put;
  }

  pub left_none : length bytes / 2 ≤ i → Filled k s₀ (cycles_of bytes) o₀ 0 s o
  left_none h =
      let e = cycles_end bytes i h in
      record { after = rw e at left.played; put = rw e at left.put }
