-- The update: pages in rising order, columns rising. It begins and ends each page's work on differing columns, writes through a
-- gap of 1 or 2 equal columns and starts a new stretch at 3 or more.
-- Assumes nothing.
use Rattle.std.specs.Prelude.{ℕ, zero, suc, ◌+◌, ◌-◌, Bool, true, false, cond, List, [], ◌∷◌, ◌++◌, map, leb}
use Rattle.std.proofs.Math.Option.{none}
use Rattle.controller.specs.Run.{BusCycle}
use Rattle.streams.specs.Picture.{shown, differs}
use Rattle.streams.specs.Stretch.{Stretch, emit}

-- the columns of one stretch
pub record Run : Type 0 where
  pub start : ℕ
  pub size : ℕ

-- column c goes into the stretch whose last byte stands before column `next`: at most 2 equal columns lie between
unfoldable pub joins : ℕ → ℕ → Bool
joins next c = leb c (next + 2)

-- a differing column c, with the runs after it: it joins the first of them where at most 2 equal columns lie between, else it
-- starts a run of its own
unfoldable pub join : ℕ → List Run → List Run
join c [] = record { start = c; size = 1 } ∷ []
join c (r ∷ rs) = cond (joins (suc c) r.start)
    (record { start = c; size = r.start - c + r.size } ∷ rs)
    (record { start = c; size = 1 } ∷ r ∷ rs)

-- column c, if it differs, with the runs after it
unfoldable pub join_if : Bool → ℕ → List Run → List Run
join_if true c rs = join c rs
join_if false c rs = rs

-- the runs of the n columns from c on; `d` says which columns differ
unfoldable pub runs : (ℕ → Bool) → ℕ → ℕ → List Run
runs d c zero = []
runs d c (suc n) = join_if (d c) c (runs d (suc c) n)

-- the wanted bytes of page p, n of them from column c on (mod 2 on page 8)
unfoldable pub wanted_bytes : ℕ → List ℕ → ℕ → ℕ → ℕ → List ℕ
wanted_bytes W wanted p c zero = []
wanted_bytes W wanted p c (suc n) = shown W wanted p c ∷ wanted_bytes W wanted p (suc c) n

unfoldable pub stretch_of : ℕ → List ℕ → ℕ → Run → Stretch
stretch_of W wanted p r = record { page = p; start = r.start; content = wanted_bytes W wanted p r.start r.size }

-- the stretches of page p
unfoldable pub page_work : ℕ → List ℕ → List ℕ → ℕ → List Stretch
page_work W recorded wanted p = map (stretch_of W wanted p) (runs (differs W recorded wanted p) 0 W)

-- the stretches of the n pages from p on
unfoldable pub work_from : ℕ → List ℕ → List ℕ → ℕ → ℕ → List Stretch
work_from W recorded wanted p zero = []
work_from W recorded wanted p (suc n) = page_work W recorded wanted p ++ work_from W recorded wanted (suc p) n

unfoldable pub update : ℕ → List ℕ → List ℕ → List Stretch
update W recorded wanted = work_from W recorded wanted 0 9

unfoldable pub update_stream : ℕ → List ℕ → List ℕ → List BusCycle
update_stream W recorded wanted = emit none (update W recorded wanted)
