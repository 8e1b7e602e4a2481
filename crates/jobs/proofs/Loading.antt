-- Loading the memory at power-up: a byte that a file lacks is 0, and a file that holds its job lacks none.
-- Assumes nothing.
use Prim.Native.Nat.{ℕ, zero, suc, ◌+◌, ◌-◌, ◌*◌, ◌≤◌, ◌<◌, min}
use mathlib.Core.Path.{◌≡◌, refl, sym, ap, ◌∙◌}
use mathlib.Core.List.{List, [], ◌∷◌, ◌++◌}
use native.Mathlib.Omega.{arith}
use borrow.Author.Tests.{lt-ltb, le-ltb, ltb-false}
use lib.Dec.{ltb}
use Rattle.std.proofs.lemmas.List.{take-replicate}
use lib.ListN.{length, take, drop, replicate, length-append, length-replicate, length-drop, drop_of_length-le}
use lib.Seq.{take_all, take_at, length-take-le}
use Rattle.paper.proofs.Cases.{split, less}
use Rattle.jobs.specs.Memory.{start_memory, filled_up}
use Rattle.jobs.specs.Output.{Holds}
use Rattle.jobs.specs.declared.header.Job.{Job}

-- what is cut off may be cut off before
cut_before : (n : ℕ) (m z : List ℕ) → take n (take n m ++ z) ≡ take n (m ++ z)
cut_before zero m z = refl
cut_before (suc n) [] z = refl
cut_before (suc n) (x ∷ m) z = ap (λ (l : List ℕ). x ∷ l) (cut_before n m z)

-- ---- n bytes, with zeros where there are none

pub filled_long : (n : ℕ) (m : List ℕ) → length (filled_up n m) ≡ n
unfolding filled_up
filled_long n m = length-take-le n (m ++ replicate n 0) (rw (length-append, length-replicate) (omega arith))

filled_whole : (n : ℕ) (m : List ℕ) → length m ≡ n → filled_up n m ≡ m
unfolding filled_up
filled_whole n m e = take_at m (replicate n 0) n e

filled_taken : (n : ℕ) (m : List ℕ) → filled_up n (take n m) ≡ filled_up n m
unfolding filled_up
filled_taken n m = cut_before n m (replicate n 0)

-- copied over zeros, as many bytes as there are and at most n
copied : (n j k : ℕ) (m : List ℕ) → n ≤ j → k ≡ min (length m) n → take k m ++ drop k (replicate n 0) ≡ take n (m ++ replicate j 0)
copied zero j k m h e = let z : k ≡ 0 = omega arith in rw z
copied (suc n) j k [] h e = let z : k ≡ 0 = omega arith in rw (z, take-replicate {X = ℕ} (suc n) j 0 h)
copied (suc n) j k (x ∷ m) h e =
    let z : k ≡ suc (k - 1) = omega arith in
    rw z (ap (λ (l : List ℕ). x ∷ l) (copied n j (k - 1) m (omega arith) (omega arith)))

pub load_copied : (n k : ℕ) (m : List ℕ) → k ≡ min (length m) n → take k m ++ drop k (replicate n 0) ≡ filled_up n m
unfolding filled_up
load_copied n k m = copied n n k m (omega arith)

-- ---- the memory at power-up

-- the rest of a list, as the code cuts it: from its end on there is as little as from past its end
rest : (l : List ℕ) (i from : ℕ) → from ≡ min i (length l) → take (length l - from) (drop from l) ≡ drop i l
rest l i from e =
    take_all (length l - from) (drop from l) (rw length-drop (omega arith))
    ∙ less i (length l)
    (λ h. let f : from ≡ i = omega arith in rw f)
    (λ h. let f : length l ≤ from = omega arith in drop_of_length-le l f ∙ sym (drop_of_length-le l h))

module _ (file : List ℕ) (j : Job) where
  start_long : Holds file j → length (start_memory file j) ≡ 1188
  unfolding start_memory
  start_long h =
      split (ltb j.pictures 1)
      (λ t. rw t (length-replicate {A = ℕ} 1188 0))
      (λ t. rw t (length-take-le 1188 (drop (8 + 2 * j.cycles) file) (rw length-drop (omega (arith, h.whole, ltb-false j.pictures 1 t)))))

  -- a file that holds its job lacks no byte
  pub start_whole : Holds file j → filled_up 1188 (start_memory file j) ≡ start_memory file j
  start_whole h = filled_whole 1188 (start_memory file j) (start_long h)

  pub start_zeros : {m : List ℕ} → j.pictures < 1 → m ≡ replicate 1188 0 → m ≡ filled_up 1188 (start_memory file j)
  unfolding start_memory
  start_zeros h e = rw (lt-ltb _ _ h) (e ∙ sym (filled_whole 1188 (replicate 1188 0) (length-replicate {A = ℕ} 1188 0)))

  pub start_picture : {m : List ℕ} {from : ℕ} → 1 ≤ j.pictures → from ≡ min (8 + 2 * j.cycles) (length file)
      → m ≡ filled_up 1188 (take (length file - from) (drop from file)) → m ≡ filled_up 1188 (start_memory file j)
  unfolding start_memory
  start_picture h f e = rw (le-ltb _ _ h, filled_taken) (e ∙ ap (filled_up 1188) (rest file (8 + 2 * j.cycles) _ f))
