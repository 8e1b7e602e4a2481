-- Laws of what is told of an answer: a value that is given is no refusal, what is told is fixed by its two parts, and a telling
-- that has an inverse tells all answers apart.
-- Assumes nothing.
use Prim.Native.Nat.{ℕ}
use mathlib.Core.Path.{◌≡◌, ◌∙◌, refl, ap, sym}
use mathlib.Core.Logic.{◌≢◌}
use mathlib.Core.Bool.{Bool, true, false, cond}
use mathlib.Core.Option.{Option, none, some}
use native.Mathlib.Omega.{arith}
use lib.Dec.{eqb}
use Rattle.std.specs.Prelude.{Result, Ok, Err}
use Rattle.paper.specs.Refusal.{number_of}
use Rattle.paper.specs.Told.{Told, given, refused, told}
use Rattle.paper.specs.declared.refusal.Refusal.{Refusal}
use Rattle.paper.specs.declared.refusal.Refusal.TheVariants.{WrongSize, OutOfRange, PinLow, Unassigned, ShortOutput, OutsideField, ShortJob, WrongHeader, WrongCycle, NoText, AwaitedAtSwitch}

-- answers that are told alike are equal, where what is told leads back to the answer
pub apart : {A B : Type 0} (told : A → B) (back : B → A) → ((a : A) → back (told a) ≡ a) → (a b : A) → told a ≡ told b → a ≡ b
apart told back is a b e = sym (is a) ∙ ap back e ∙ is b

-- the answer that is told so, from its two makers: a value, or a refusal's number
abbrev pub answer_by : {A B : Type 0} → (B → A) → (ℕ → A) → ℕ → Option B → A
answer_by value number n (some x) = value x
answer_by value number n none = number n

abbrev pub answer_of : {A B : Type 0} → (B → A) → (ℕ → A) → Told B → A
answer_of value number t = answer_by value number t.number t.value

module _ {A : Type 0} where
  pub some_one : {x y : A} → some x ≡ some y → x ≡ y
  some_one e = cc

  pub none_some : {x : A} → none ≡ some x → ⊥
  none_some e = let z : ◌≡◌ {A = ℕ} 0 1 = cc in omega arith

  pub given_one : {x y : A} → given x ≡ given y → x ≡ y
  given_one e = some_one (ap (λ t. t.value) e)

  pub refused_one : {n m : ℕ} → refused {A = A} n ≡ refused m → n ≡ m
  refused_one e = ap (λ t. t.number) e

  pub not_given : {x : A} {n : ℕ} → refused n ≡ given x → ⊥
  not_given e = none_some (ap (λ t. t.value) e)

  -- what is given where a test does not hold
  pub given_by : (t : Bool) (n : ℕ) {x y : A} → given x ≡ cond t (refused n) (given y) → x ≡ y
  given_by true n e = absurd (not_given {n = n} (sym e))
  given_by false n e = given_one e

  pub told_is : (t : Told A) {n : ℕ} {v : Option A} → t.number ≡ n → t.value ≡ v → t ≡ record { number = n; value = v }
  told_is t {n} e f = ap (λ (x : ℕ). record { number = x; value = t.value }) e ∙ ap (λ x. record { number = n; value = x }) f

-- ---- answers of calls

-- the refusal of a number
abbrev refusal_of : ℕ → Refusal
refusal_of n =
    cond (eqb n 1) WrongSize
    (cond (eqb n 2) OutOfRange
    (cond (eqb n 3) PinLow
    (cond (eqb n 4) Unassigned
    (cond (eqb n 5) ShortOutput
    (cond (eqb n 6) OutsideField
    (cond (eqb n 7) ShortJob
    (cond (eqb n 8) WrongHeader
    (cond (eqb n 9) WrongCycle
    (cond (eqb n 11) NoText
    AwaitedAtSwitch)))))))))

numbered_back : (r : Refusal) → refusal_of (number_of r) ≡ r
numbered_back WrongSize = refl
numbered_back OutOfRange = refl
numbered_back PinLow = refl
numbered_back Unassigned = refl
numbered_back ShortOutput = refl
numbered_back OutsideField = refl
numbered_back ShortJob = refl
numbered_back WrongHeader = refl
numbered_back WrongCycle = refl
numbered_back NoText = refl
numbered_back AwaitedAtSwitch = refl

-- refusals with one number are one
pub number_one : (r s : Refusal) → number_of r ≡ number_of s → r ≡ s
number_one = apart number_of refusal_of numbered_back

-- and none has the number 0
pub number_some : (r : Refusal) → number_of r ≢ 0
number_some WrongSize e = omega arith
number_some OutOfRange e = omega arith
number_some PinLow e = omega arith
number_some Unassigned e = omega arith
number_some ShortOutput e = omega arith
number_some OutsideField e = omega arith
number_some ShortJob e = omega arith
number_some WrongHeader e = omega arith
number_some WrongCycle e = omega arith
number_some NoText e = omega arith
number_some AwaitedAtSwitch e = omega arith

-- answers that are told alike are equal
pub told_one : {A : Type 0} (a b : Result A Refusal) → told a ≡ told b → a ≡ b
told_one (Ok x) (Ok y) e = ap Ok (given_one e)
told_one (Ok x) (Err s) e = absurd (not_given (sym e))
told_one (Err r) (Ok y) e = absurd (not_given e)
told_one (Err r) (Err s) e = ap Err (number_one r s (refused_one e))
