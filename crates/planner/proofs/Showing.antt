-- What the code's tests on pictures tell: they differ where the bytes that they show compare unequal.
-- Assumes nothing.
use Prim.Native.Nat.{ℕ}
use mathlib.Core.Path.{◌≡◌, sym, ◌∙◌}
use mathlib.Core.Bool.{Bool, not}
use mathlib.Core.List.{List}
use lib.Dec.{eqb}
use borrow.Author.Tests.{eqb-true, eqb-false}
use Rattle.paper.proofs.Cases.{split}
use Rattle.streams.specs.Picture.{shown, differs}
use Rattle.streams.proofs.Pictures.{differs_yes, differs_no}

-- two shown bytes, compared
pub differ_is : (W : ℕ) (r w : List ℕ) (p c a b : ℕ) → a ≡ shown W r p c → b ≡ shown W w p c → not (eqb a b) ≡ differs W r w p c
differ_is W r w p c a b e f = split (eqb a b)
    (λ t. rw t (sym (differs_no W r w p c (sym e ∙ eqb-true a b t ∙ f))))
    (λ t. rw t (sym (differs_yes W r w p c (λ q. eqb-false a b t (e ∙ q ∙ sym f)))))

-- a test on a value is one on what it is
pub told : {a b t : Bool} → a ≡ b → a ≡ t → b ≡ t
told e h = sym e ∙ h
