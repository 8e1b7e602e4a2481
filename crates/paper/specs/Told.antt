-- An answer as document 01 tells it: the number it is refused with, 0 for none, and the value where it is not refused.
-- Assumes nothing.
use Rattle.std.specs.Prelude.{ℕ, Result, Ok, Err}
use Rattle.std.proofs.Math.Option.{Option, none, some}
use Rattle.paper.specs.Refusal.{number_of}
use Rattle.paper.specs.declared.refusal.Refusal.{Refusal}

pub record Told (A : Type 0) : Type 0 where
  pub number : ℕ
  pub value : Option A

abbrev pub given : {A : Type 0} → A → Told A
given x = record { number = 0; value = some x }

abbrev pub refused : {A : Type 0} → ℕ → Told A
refused n = record { number = n; value = none }

-- what a call answers: a value, or what it is refused with
abbrev pub told : {A : Type 0} → Result A Refusal → Told A
told (Ok x) = given x
told (Err r) = refused (number_of r)
