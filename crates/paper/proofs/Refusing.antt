-- Calls that answer a value or a refusal: what is told of an answer is the answer, and it is a refusal exactly if its number is told.
-- Assumes nothing.
use mathlib.Core.Path.{◌≡◌, refl, ap, sym}
use mathlib.Core.Logic.{inl, inr}
use Rattle.std.specs.Prelude.{Result, Ok, Err}
use Rattle.paper.specs.Refusal.{number_of}
use Rattle.paper.specs.Told.{given, refused, told}
use Rattle.paper.specs.declared.refusal.Refusal.{Refusal}
use Rattle.paper.proofs.Telling.{number_one, number_some, told_one}
use Rattle.paper.proofs.Exactly.{Exactly}
use Rattle.paper.proofs.Answering.{Silent}

module _ {A : Type 0} where
  -- a value is answered where it is told, and a refusal where its number is
  pub ok_told : (a : Result A Refusal) {x : A} → told a ≡ given x → a ≡ Ok x
  ok_told a {x} e = told_one a (Ok x) e

  pub err_told : (a : Result A Refusal) {r : Refusal} → told a ≡ refused (number_of r) → a ≡ Err r
  err_told a {r} e = told_one a (Err r) e

  pub err_exactly : (a : Result A Refusal) (r : Refusal) → Exactly (a ≡ Err r) ((told a).number ≡ number_of r)
  err_exactly (Ok x) r = (λ e. ap (λ a. (told a).number) e, λ e. absurd (number_some r (sym e)))
  err_exactly (Err s) r = (λ e. ap (λ a. (told a).number) e, λ e. ap Err (number_one s r e))

  -- a refusal gives nothing, and its number is not 0
  pub told_silent : (a : Result A Refusal) → Silent (told a)
  told_silent (Ok x) = inl refl
  told_silent (Err r) = inr refl
