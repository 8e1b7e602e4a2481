-- What each way out of a call has: an answer that is given goes into the out-parameters, a refusal leaves them; and what is told alike
-- comes out alike.
-- Assumes nothing.
use Prim.Native.Nat.{ℕ}
use mathlib.Core.Path.{◌≡◌, ◌∙◌, refl, ap, sym}
use mathlib.Core.Logic.{◌≢◌, ◌⊎◌, inl, inr}
use mathlib.Core.Bool.{Bool, true, false, cond}
use mathlib.Core.Option.{none}
use lib.Dec.{eqb}
use borrow.Author.Tests.{eqb-true, eqb-false}
use Rattle.paper.specs.Told.{Told, given, refused}
use Rattle.paper.specs.Answers.{left_by, Answers, Through, If}
use Rattle.paper.proofs.Cases.{split}
use Rattle.paper.proofs.Telling.{refused_one, not_given}

module _ {C A B : Type 0} {Is : C → Type 0} {told : C → Told A} {put : A → B} {before : B} where
  -- the answer a is b, of which so much is told
  through : {a b : C} {t : Told A} → a ≡ b → told b ≡ t → Is a → Through Is told put before (left_by put before t.value) t.number
  through {a} e q h =
      let f = ap told e ∙ q in
      record { answer = a; promised = h; answers = record { number = sym (ap (λ u. u.number) f); left = sym (ap (λ u. left_by put before u.value) f) } }

  -- a value, which goes into the out-parameters
  pub gives : {a b : C} {x : A} → a ≡ b → told b ≡ given x → Is a → Through Is told put before (put x) 0
  gives {x = x} e q h = through {t = given x} e q h

  -- a refusal, which leaves them
  pub refuses : {a b : C} {n : ℕ} → a ≡ b → told b ≡ refused n → Is a → Through Is told put before before n
  refuses {n = n} e q h = through {t = refused n} e q h

-- ---- what is told alike comes out alike

pub answers_one : {A B : Type 0} {t u : Told A} {put : A → B} {before after after' : B} {r r' : ℕ}
    → t ≡ u → Answers t put before after r → Answers u put before after' r' → (after ≡ after') × (r ≡ r')
answers_one {put = put} {before = before} e f g =
    (f.left ∙ ap (λ t. left_by put before t.value) e ∙ sym g.left, f.number ∙ ap (λ t. t.number) e ∙ sym g.number)

-- a promise that depends on a test, by the test
pub if_split : {P Q X : Type 0} (t : Bool) → If t P Q → (t ≡ true → P → X) → (t ≡ false → Q → X) → X
if_split true p f g = f refl p
if_split false q f g = g refl q

pub if_both : {P Q P' Q' X : Type 0} (t : Bool) → If t P Q → If t P' Q' → (P → P' → X) → (Q → Q' → X) → X
if_both true p p' f g = f p p'
if_both false q q' f g = g q q'

-- what is told is not refused, or gives nothing
abbrev pub Silent : {A : Type 0} → Told A → Type 0
Silent t = (t.number ≡ 0) ⊎ (t.value ≡ none)

pub nothing_given : {A : Type 0} (t : Told A) → Silent t → t.number ≢ 0 → t.value ≡ none
nothing_given t (inl e) h = absurd (h e)
nothing_given t (inr e) h = e

-- ---- numbers

-- a refusal where a test holds, else what is given
pub test_number : {A : Type 0} (t : Bool) (n : ℕ) (x : A) → (cond t (refused n) (given x)).number ≡ cond t n 0
test_number true n x = refl
test_number false n x = refl

-- what is given where the number is 0, else a refusal with it
pub number_number : {A : Type 0} (n : ℕ) (x : A) → (cond (eqb n 0) (given x) (refused n)).number ≡ n
number_number n x = split (eqb n 0) (λ t. rw t (sym (eqb-true n 0 t))) (λ t. rw t)

-- a number that is not 0 is a refusal's
pub refused_number : {A : Type 0} (number n : ℕ) (x : A) → refused n ≡ cond (eqb number 0) (given x) (refused number) → (n ≢ 0) × (eqb number 0 ≡ false)
refused_number number n x e = split (eqb number 0)
    (λ t. absurd (not_given {x = x} {n = n} (e ∙ rw t refl)))
    (λ t. (λ z. eqb-false number 0 t (sym (refused_one (e ∙ rw t refl)) ∙ z), t))

-- where a number is answered nothing is given, so what stands in the out-parameters stood there before
pub refusal_leaves : {C A B : Type 0} {Is : C → Type 0} {told : C → Told A} {put : A → B} {before after : B} {r : ℕ}
    → ((a : C) → Silent (told a)) → Through Is told put before after r → r ≢ 0 → after ≡ before
refusal_leaves {told = told} {put = put} {before = before} silent f h =
    f.answers.left ∙ ap (left_by put before) (nothing_given (told f.answer) (silent f.answer) (λ z. h (f.answers.number ∙ z)))
