-- How an answer of the crates below reaches C: its number is answered, and its value goes into the out-parameters.
-- Assumes nothing.
use Rattle.std.specs.Prelude.{ℕ, ◌≡◌, Bool, true, false}
use Rattle.std.proofs.Math.Option.{Option, none, some}
use Rattle.paper.specs.Told.{Told}

-- what stands in an out-parameter: what a value puts there, or what stood there before where there is none
abbrev pub left_by : {A B : Type 0} → (A → B) → B → Option A → B
left_by put before none = before
left_by put before (some x) = put x

-- what is told of an answer, in C: r is its number, and the out-parameters hold what its value puts there
pub record Answers {A B : Type 0} (t : Told A) (put : A → B) (before after : B) (r : ℕ) : Type 0 where
  pub number : r ≡ t.number
  pub left : after ≡ left_by put before t.value

-- an answer that a crate below promises, in C
pub record Through {C A B : Type 0} (Is : C → Type 0) (told : C → Told A) (put : A → B) (before after : B) (r : ℕ) : Type 0 where
  pub answer : C
  pub promised : Is answer
  pub answers : Answers (told answer) put before after r

-- the one where a test holds, else the other
abbrev pub If : Bool → Type 0 → Type 0 → Type 0
If true P Q = P
If false P Q = Q

-- a value that goes out as it is
abbrev pub same : {A : Type 0} → A → A
same x = x
