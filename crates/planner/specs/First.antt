-- The first differing byte: page by page, columns rising.
-- Assumes nothing.
use Rattle.std.specs.Prelude.{ℕ, zero, suc, ◌≡◌, Bool, cond, ◌||◌, List, Result, Ok, Err, Option as Maybe, Some, None}
use Rattle.std.proofs.Math.Option.{Option, none, some}
use Rattle.paper.specs.Refusal.{wrong_size, number_of}
use Rattle.paper.specs.declared.refusal.Refusal.{Refusal}
use Rattle.paper.specs.Told.{Told, given, refused}
use Rattle.streams.specs.Picture.{differs}
use Rattle.streams.specs.Stretch.{Place}
use Rattle.planner.specs.Pictures.{misfit}
use Rattle.planner.specs.declared.first.Place.{Place as Found}

-- the first of the n columns from c on of page p that differs, else what is found on the pages after it
unfoldable pub first_on : (ℕ → Bool) → ℕ → ℕ → ℕ → Option Place → Option Place
first_on d p c zero later = later
first_on d p c (suc n) later = cond (d c) (some (record { page = p; column = c })) (first_on d p (suc c) n later)

-- the first on the n pages from p on
unfoldable pub first_from : ℕ → List ℕ → List ℕ → ℕ → ℕ → Option Place
first_from W recorded wanted p zero = none
first_from W recorded wanted p (suc n) = first_on (differs W recorded wanted p) p 0 W (first_from W recorded wanted (suc p) n)

-- the page and column of the first difference, or that there is none; 1 where a picture does not fit
unfoldable pub first_difference : ℕ → List ℕ → List ℕ → Told (Option Place)
first_difference W recorded wanted =
    cond (misfit W recorded || misfit W wanted) (refused wrong_size) (given (first_from W recorded wanted 0 9))

-- a place that was found, or none
abbrev pub place_of : Maybe Found → Option Place
place_of (Some x) = some (record { page = x.page; column = x.column })
place_of None = none

-- an answer as the paper tells it
abbrev pub told_found : Result (Maybe Found) Refusal → Told (Option Place)
told_found (Ok x) = given (place_of x)
told_found (Err e) = refused (number_of e)

-- what first_difference promises
pub record IsFirst (W : ℕ) (recorded wanted : List ℕ) (a : Result (Maybe Found) Refusal) : Type 0 where
  pub tells : told_found a ≡ first_difference W recorded wanted
