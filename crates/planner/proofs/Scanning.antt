-- The scan for the first difference, a column and a page at a time; and what its answer says of every place that it passed.
-- Assumes nothing.
use Prim.Native.Nat.{ℕ, zero, suc, ◌+◌, ◌-◌, ◌≤◌, ◌<◌}
use mathlib.Core.Path.{◌≡◌, refl, sym, ap, ◌∙◌}
use mathlib.Core.Logic.{◌⊎◌, inl, inr, ⊎_elim}
use mathlib.Core.Bool.{Bool, true, false, ◌||◌}
use mathlib.Core.Option.{Option, none, some}
use mathlib.Core.List.{List}
use native.Mathlib.Numerals.{add-one}
use native.Mathlib.Omega.{arith}
use Rattle.paper.specs.Told.{given}
use Rattle.paper.proofs.Cases.{split, less}
use Rattle.paper.proofs.Left.{one_fewer}
use Rattle.streams.specs.Picture.{differs}
use Rattle.streams.specs.Stretch.{Place}
use Rattle.streams.proofs.Equal.{equal_passed}
use Rattle.planner.specs.Pictures.{misfit}
use Rattle.planner.specs.Equal.{Past}
use Rattle.planner.specs.First.{first_on, first_from, first_difference}

module _ (d : ℕ → Bool) (p W c : ℕ) (later : Option Place) where
  -- a column that differs ends the scan
  pub first_here : c < W → d c ≡ true → first_on d p c (W - c) later ≡ some (record { page = p; column = c })
  unfolding first_on
  first_here h e = rw (one_fewer c W h, e)

  -- one that does not is passed
  pub first_next : c < W → d c ≡ false → first_on d p c (W - c) later ≡ first_on d p (c + 1) (W - (c + 1)) later
  unfolding first_on
  first_next h e = rw (one_fewer c W h, e, add-one)

  -- past the last column the pages after it answer
  pub first_end : W ≤ c → first_on d p c (W - c) later ≡ later
  unfolding first_on
  first_end h = let z : W - c ≡ 0 = omega arith in rw z

-- columns that do not differ are passed, however many
pub first_passed : (d : ℕ → Bool) (p W c e : ℕ) (later : Option Place) → Past d W c e → first_on d p c (W - c) later ≡ first_on d p e (W - e) later
first_passed d p W c e later past =
    equal_passed (λ (k : ℕ). first_on d p k (W - k) later) d W (λ k. first_next d p W k later) c e past.0 past.1 past.2

module _ (W : ℕ) (r w : List ℕ) (p : ℕ) where
  -- a page of those that are left
  pub first_page : p < 9
      → first_from W r w p (9 - p) ≡ first_on (differs W r w p) p 0 (W - 0) (first_from W r w (p + 1) (9 - (p + 1)))
  unfolding first_from
  first_page h = let z : W - 0 ≡ W = omega arith in rw (one_fewer p 9 h, z, add-one)

  pub first_none : 9 ≤ p → first_from W r w p (9 - p) ≡ none
  unfolding first_from
  first_none h = let z : 9 - p ≡ 0 = omega arith in rw z

-- ---- what is found, and what is passed

-- column c did not differ, and those after it did not
passed : (d : ℕ → Bool) (c : ℕ) → d c ≡ false → (j : ℕ) → c ≤ j → (suc c ≤ j → d j ≡ false) → d j ≡ false
passed d c t j a f = less c j f (λ h. let e : j ≡ c = omega arith in rw e t)

placed : {p c q k : ℕ} → ◌≡◌ {A = Option Place} (some (record { page = p; column = c })) (some (record { page = q; column = k })) → (p ≡ q) × (c ≡ k)
placed {p} {c} {q} {k} e =
    let x : ◌≡◌ {A = Place} (record { page = p; column = c }) (record { page = q; column = k }) = cc in
    (ap (λ y. y.page) x, ap (λ y. y.column) x)

on_none : (d : ℕ → Bool) (p c n : ℕ) (later : Option Place) → first_on d p c n later ≡ none
    → (later ≡ none) × ((j : ℕ) → c ≤ j → j < c + n → d j ≡ false)
unfolding first_on
on_none d p c zero later e = (e, λ j a b. absurd (omega arith))
on_none d p c (suc n) later e = split (d c)
    (λ t. absurd (let s : ◌≡◌ {A = Option Place} (some (record { page = p; column = c })) none = rw t at e in
    let z : ◌≡◌ {A = ℕ} 0 1 = cc in omega arith))
    (λ t. let u = on_none d p (suc c) n later (rw t at e) in
    (u.0, λ j a b. passed d c t j a (λ h. u.1 j h (omega arith))))

on_passed : (d : ℕ → Bool) (p c n : ℕ) (later : Option Place) → ((j : ℕ) → c ≤ j → j < c + n → d j ≡ false) → first_on d p c n later ≡ later
unfolding first_on
on_passed d p c zero later h = refl
on_passed d p c (suc n) later h = rw (h c (omega arith) (omega arith)) (on_passed d p (suc c) n later (λ j a b. h j (omega arith) (omega arith)))

-- the first of the n columns from c on, or none of them
on_at : (d : ℕ → Bool) (p c n : ℕ) (later : Option Place) (q k : ℕ) → first_on d p c n later ≡ some (record { page = q; column = k })
    → ((q ≡ p) × (k < c + n) × (d k ≡ true) × ((j : ℕ) → c ≤ j → j < k → d j ≡ false))
    ⊎ ((later ≡ some (record { page = q; column = k })) × ((j : ℕ) → c ≤ j → j < c + n → d j ≡ false))
unfolding first_on
on_at d p c zero later q k e = inr (e, λ j a b. absurd (omega arith))
on_at d p c (suc n) later q k e = split (d c)
    (λ t. let s : ◌≡◌ {A = Option Place} (some (record { page = p; column = c })) (some (record { page = q; column = k })) = rw t at e in
    let x = placed s in
    inl (sym x.0, omega (arith, x.1), rw (← x.1) t, λ j a b. absurd (omega (arith, x.1))))
    (λ t. ⊎_elim
    (λ u. inl (u.0, omega (arith, u.1), u.2, λ j a b. passed d c t j a (λ h. u.3 j h b)))
    (λ u. inr (u.0, λ j a b. passed d c t j a (λ h. u.1 j h (omega arith))))
    (on_at d p (suc c) n later q k (rw t at e)))

-- q and k is the first difference on the n pages from p on
pub record Leading (W : ℕ) (r w : List ℕ) (p n q k : ℕ) : Type 0 where
  pub high : p ≤ q
  pub low : q < p + n
  pub in_page : k < W
  pub hit : differs W r w q k ≡ true
  pub same_page : (j : ℕ) → j < k → differs W r w q j ≡ false
  pub pages_before : (i j : ℕ) → p ≤ i → i < q → j < W → differs W r w i j ≡ false

module _ (W : ℕ) (r w : List ℕ) where
  pub from_at : (p n q k : ℕ) → first_from W r w p n ≡ some (record { page = q; column = k }) → Leading W r w p n q k
  unfolding first_from
  from_at p zero q k e = absurd (let z : ◌≡◌ {A = ℕ} 0 1 = cc in omega arith)
  from_at p (suc n) q k e = ⊎_elim
      (λ u. let s : q ≡ p = u.0 in
      record {
        high = omega arith;
        low = omega arith;
        in_page = omega (arith, u.1);
        hit = rw s u.2;
        same_page = λ j h. rw s (u.3 j (omega arith) h);
        pages_before = λ i j a b h. absurd (omega arith);
      })
      (λ u. let l = from_at (suc p) n q k u.0 in
      record {
        high = omega (arith, l.high);
        low = omega (arith, l.low);
        in_page = l.in_page;
        hit = l.hit;
        same_page = l.same_page;
        pages_before = λ i j a b h. less p i
            (λ m. l.pages_before i j m b h)
            (λ m. let s : i ≡ p = omega arith in rw s (u.1 j (omega arith) (omega arith)));
      })
      (on_at (differs W r w p) p 0 W (first_from W r w (suc p) n) q k e)

  pub none_at : (p n i j : ℕ) → first_from W r w p n ≡ none → p ≤ i → i < p + n → j < W → differs W r w i j ≡ false
  unfolding first_from
  none_at p zero i j e a b h = absurd (omega arith)
  none_at p (suc n) i j e a b h =
      let u = on_none (differs W r w p) p 0 W (first_from W r w (suc p) n) e in
      less p i
      (λ m. none_at (suc p) n i j u.0 m (omega arith) h)
      (λ m. let s : i ≡ p = omega arith in rw s (u.1 j (omega arith) (omega arith)))

  pub from_none : (p n : ℕ) → ((i j : ℕ) → i < p + n → j < W → differs W r w i j ≡ false) → first_from W r w p n ≡ none
  unfolding first_from
  from_none p zero h = refl
  from_none p (suc n) h =
      on_passed (differs W r w p) p 0 W (first_from W r w (suc p) n) (λ j a b. h p j (omega arith) (omega arith))
      ∙ from_none (suc p) n (λ i j a b. h i j (omega arith) b)

  pub first_given : (misfit W r || misfit W w) ≡ false → first_difference W r w ≡ given (first_from W r w 0 9)
  unfolding first_difference
  first_given e = rw e
