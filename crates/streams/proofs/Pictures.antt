-- Laws of pictures, so that no other file opens their definitions: to show the same is an equivalence, and two pictures are the
-- same exactly if they differ nowhere. All of it holds cell by cell.
-- Assumes nothing.
use Prim.Native.Nat.{ℕ, ◌+◌, ◌*◌, ◌≤◌, ◌<◌}
use mathlib.Core.Path.{◌≡◌, refl, sym, ◌∙◌}
use mathlib.Core.Logic.{◌≢◌, inl}
use mathlib.Core.Bool.{true, false}
use mathlib.Core.List.{List}
use lib.ListN.{get_or}
use lib.Dec.{eqb}
use borrow.Author.Tests.{eqb-true, eqb-false, eq-eqb, ne_eqb, not-true, not-false}
use Rattle.controller.specs.Memory.{cell_of}
use Rattle.controller.proofs.Cells.{cell_again}
use Rattle.streams.specs.Picture.{shown, Same, Between, differs}

module _ (W : ℕ) where
  pub shown_is : (a : List ℕ) (p c : ℕ) → shown W a p c ≡ cell_of p (get_or a (W * p + c) 0)
  unfolding shown
  shown_is a p c = refl

  -- what is shown, shows itself
  pub shown_again : (a : List ℕ) (p c : ℕ) → cell_of p (shown W a p c) ≡ shown W a p c
  unfolding shown
  shown_again a p c = cell_again p (get_or a (W * p + c) 0)

  -- ---- the same picture

  pub same_refl : (a : List ℕ) → Same W a a
  unfolding Same
  same_refl a p c hp hc = refl

  pub same_sym : (a b : List ℕ) → Same W a b → Same W b a
  unfolding Same
  same_sym a b h p c hp hc = sym (h p c hp hc)

  pub same_trans : (a b e : List ℕ) → Same W a b → Same W b e → Same W a e
  unfolding Same
  same_trans a b e h k p c hp hc = h p c hp hc ∙ k p c hp hc

  pub same_at : (a b : List ℕ) (p c : ℕ) → Same W a b → p ≤ 8 → c < W → shown W a p c ≡ shown W b p c
  unfolding Same
  same_at a b p c h hp hc = h p c hp hc

  pub same_by : (a b : List ℕ) → ((p c : ℕ) → p ≤ 8 → c < W → shown W a p c ≡ shown W b p c) → Same W a b
  unfolding Same
  same_by a b h = h

  -- ---- where two pictures differ

  module _ (r w : List ℕ) (p c : ℕ) where
    pub differs_true : differs W r w p c ≡ true → shown W r p c ≢ shown W w p c
    unfolding differs
    differs_true e = eqb-false (shown W r p c) (shown W w p c) (not-true (eqb (shown W r p c) (shown W w p c)) e)

    pub differs_false : differs W r w p c ≡ false → shown W r p c ≡ shown W w p c
    unfolding differs
    differs_false e = eqb-true (shown W r p c) (shown W w p c) (not-false (eqb (shown W r p c) (shown W w p c)) e)

    pub differs_yes : shown W r p c ≢ shown W w p c → differs W r w p c ≡ true
    unfolding differs
    differs_yes h = rw (ne_eqb (shown W r p c) (shown W w p c) h)

    pub differs_no : shown W r p c ≡ shown W w p c → differs W r w p c ≡ false
    unfolding differs
    differs_no h = rw (eq-eqb (shown W r p c) (shown W w p c) h)

  -- the same exactly if nothing differs
  pub same_nowhere : (r w : List ℕ) → Same W r w → (p c : ℕ) → p ≤ 8 → c < W → differs W r w p c ≡ false
  same_nowhere r w h p c hp hc = differs_no r w p c (same_at r w p c h hp hc)

  pub nowhere_same : (r w : List ℕ) → ((p c : ℕ) → p ≤ 8 → c < W → differs W r w p c ≡ false) → Same W r w
  nowhere_same r w h = same_by r w (λ p c hp hc. differs_false r w p c (h p c hp hc))

  -- ---- between two pictures

  pub recorded_between : (r w m : List ℕ) → Same W m r → Between W r w m
  unfolding Between
  recorded_between r w m h p c hp hc = inl (same_at m r p c h hp hc)
