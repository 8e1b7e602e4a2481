-- Page groups, so that no layer above opens them: a group is the walk over its page, as long as the formula says and never longer
-- than a whole page with its address; it begins with its page byte, and a page has none exactly where it does not differ.
-- Assumes nothing.
use Prim.Native.Nat.{ℕ, ◌+◌, ◌≤◌}
use mathlib.Core.Path.{◌≡◌, refl, sym, ◌∙◌, ap}
use mathlib.Core.Logic.{◌≢◌}
use mathlib.Core.Bool.{false}
use mathlib.Core.Option.{none}
use mathlib.Core.List.{List, [], ◌∷◌, map}
use native.Mathlib.Omega.{arith}
use lib.ListN.{length, take}
use Rattle.paper.proofs.Exactly.{Exactly}
use Rattle.controller.specs.Run.{BusCycle}
use Rattle.controller.specs.Chip.{page_cycle}
use Rattle.streams.specs.Picture.{differs}
use Rattle.streams.specs.Stretch.{on_it, address, emit_by, emit}
use Rattle.streams.specs.Update.{Run, runs, stretch_of, page_work}
use Rattle.streams.specs.Length.{page_length}
use Rattle.streams.specs.Walk.{walk}
use Rattle.streams.specs.Shape.{Equal, group}
use Rattle.streams.proofs.Runs.{hits}
use Rattle.streams.proofs.Cost.{weight, runs_cost, page_length_most}
use Rattle.streams.proofs.Emitting.{emit_nil}
use Rattle.streams.proofs.Length.{page_length_lem, page_length_none, none_page_length}
use Rattle.streams.proofs.Walking.{page_walk}

-- ---- what has no length

no_runs : (rs : List Run) → weight rs ≡ 0 → rs ≡ []
unfolding weight
no_runs [] e = refl
no_runs (x ∷ rs) e = absurd (omega arith)

pub no_length : (l : List BusCycle) → length l ≡ 0 → l ≡ []
no_length [] e = refl
no_length (x ∷ l) e = absurd (omega arith)

module _ (W : ℕ) (r w : List ℕ) where
  -- ---- one group

  pub group_walk : (p : ℕ) → group W r w p ≡ walk W w p (differs W r w p) false 0 0 W
  unfolding group
  group_walk p = page_walk W r w none p tt

  pub group_length : (p : ℕ) → length (group W r w p) ≡ page_length (differs W r w p) W
  unfolding group
  group_length p = page_length_lem W r w none p tt

  pub group_most : (p : ℕ) → length (group W r w p) ≤ W + 3
  group_most p = omega (arith, group_length p, page_length_most (differs W r w p) W)

  begins : (p : ℕ) (rs : List Run) → emit none (map (stretch_of W w p) rs) ≢ [] → take 1 (emit none (map (stretch_of W w p) rs)) ≡ page_cycle p ∷ []
  unfolding emit_by stretch_of address on_it
  begins p [] h = absurd (h refl)
  begins p (x ∷ rs) h = refl

  -- it begins with its page byte
  pub group_begins : (p : ℕ) → group W r w p ≢ [] → take 1 (group W r w p) ≡ page_cycle p ∷ []
  unfolding group page_work
  group_begins p h = begins p (runs (differs W r w p) 0 W) h

  -- ---- a page without a group

  pub none_length : (p : ℕ) → group W r w p ≡ [] → page_length (differs W r w p) W ≡ 0
  none_length p e = sym (group_length p) ∙ ap length e

  none_runs : (p : ℕ) → group W r w p ≡ [] → runs (differs W r w p) 0 W ≡ []
  none_runs p e = no_runs (runs (differs W r w p) 0 W) (omega (arith, runs_cost (differs W r w p) W, none_length p e))

  pub none_work : (p : ℕ) → group W r w p ≡ [] → page_work W r w p ≡ []
  unfolding page_work
  none_work p e = rw (none_runs p e)

  pub none_hits : (p k : ℕ) → group W r w p ≡ [] → hits (runs (differs W r w p) 0 W) k ≡ 0
  unfolding hits
  none_hits p k e = rw (none_runs p e)

  -- a page with a group has a run
  pub some_runs : (p : ℕ) → group W r w p ≢ [] → runs (differs W r w p) 0 W ≢ []
  unfolding group page_work
  some_runs p h e = h (rw e (emit_nil none))

  -- a page has no group exactly if none of its columns differs
  pub group_none : (p : ℕ) → Exactly (group W r w p ≡ []) (Equal (differs W r w p) 0 W)
  group_none p = (
    λ e k a b. none_page_length (differs W r w p) W k (none_length p e) b,
    λ h. no_length (group W r w p) (group_length p ∙ page_length_none (differs W r w p) W (λ k l. h k (omega arith) l)),
  )
