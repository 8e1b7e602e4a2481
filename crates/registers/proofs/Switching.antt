-- What a switch promises: one answer, each number exactly when, and nothing moved but the set; so a switch there and back is as if
-- there had been none.
-- Assumes nothing.
use Prim.Native.Nat.{ℕ}
use mathlib.Core.Path.{◌≡◌, ◌∙◌, refl, ap, sym}
use mathlib.Core.Logic.{◌≢◌, ◌⊎◌, inl, inr, ⊎_elim}
use mathlib.Core.Bool.{Bool, true, false, cond, not, false≢true}
use native.Mathlib.Omega.{arith}
use borrow.Author.Tests.{not-false}
use Rattle.std.specs.Prelude.{Result, Ok, Err}
use Rattle.paper.specs.Refusal.{out_of_range, awaited_at_switch, number_of}
use Rattle.paper.specs.Told.{given, refused, told}
use Rattle.paper.specs.declared.refusal.Refusal.{Refusal}
use Rattle.paper.specs.declared.refusal.Refusal.TheVariants.{OutOfRange, AwaitedAtSwitch}
use Rattle.paper.specs.declared.sheet.Sheet.{Sheet}
use Rattle.paper.proofs.Exactly.{Exactly, then, both, same_number, here, past, nowhere}
use Rattle.paper.proofs.Telling.{told_one, number_one, number_some, given_one, refused_one, not_given}
use Rattle.paper.proofs.Refusing.{ok_told, err_exactly}
use Rattle.instructions.specs.Added.{of_other}
use Rattle.instructions.specs.Read.{nothing_awaited}
use Rattle.instructions.specs.declared.added.CommandSet.{CommandSet}
use Rattle.instructions.specs.declared.instruction.Awaited.{Awaited}
use Rattle.instructions.specs.declared.instruction.Awaited.TheVariants as awaited
use Rattle.registers.specs.Registers.{with_set, outside}
use Rattle.registers.specs.Switch.{switched, IsSwitched}
use Rattle.registers.specs.declared.Registers.{Registers}
use Rattle.registers.proofs.InRange.{ranged, ranges, ranges_beside, owned_ranged}

-- ---- one answer

pub switched_one : {k : Sheet} {r : Registers} {set : CommandSet} {a b : Result Registers Refusal} → IsSwitched k r set a → IsSwitched k r set b → a ≡ b
switched_one {a = a} {b = b} f g = told_one a b (f.tells ∙ sym g.tells)

-- ---- its numbers

number_by_lem : (o w : Bool) (r : Registers) → (cond o (refused out_of_range) (cond w (refused awaited_at_switch) (given r))).number ≡ cond o out_of_range (cond w awaited_at_switch 0)
number_by_lem true w r = refl
number_by_lem false true r = refl
number_by_lem false false r = refl

-- registers are given where neither test holds, and a number where one does
done_by : (o w : Bool) {m n : Registers} → given m ≡ cond o (refused out_of_range) (cond w (refused awaited_at_switch) (given n))
    → (m ≡ n) × (o ≡ false) × (w ≡ false)
done_by true w e = absurd (not_given (sym e))
done_by false true e = absurd (not_given (sym e))
done_by false false e = (given_one e, refl, refl)

refused_by : (o w : Bool) (r : Registers) {n : ℕ} → refused n ≡ cond o (refused out_of_range) (cond w (refused awaited_at_switch) (given r))
    → (n ≡ out_of_range) ⊎ (n ≡ awaited_at_switch)
refused_by true w r e = inl (refused_one e)
refused_by false true r e = inr (refused_one e)
refused_by false false r e = absurd (not_given e)

-- ---- in the other set

is_nothing : (a : Awaited) → nothing_awaited a ≡ true → a ≡ awaited.Nothing
is_nothing awaited.Nothing e = refl
is_nothing awaited.Contrast e = absurd (false≢true e)
is_nothing awaited.Indicator e = absurd (false≢true e)
is_nothing awaited.Com0 e = absurd (false≢true e)
is_nothing awaited.Duty e = absurd (false≢true e)
is_nothing awaited.Inversion e = absurd (false≢true e)

-- where nothing is awaited, registers in range are so in either set
set_inside : (k : Sheet) (r : Registers) (set : CommandSet) → outside k r ≡ false → nothing_awaited r.awaited ≡ true → outside k (with_set r set) ≡ false
set_inside k r set e q =
    let g = ranges k r e in
    ranged k (with_set r set) (omega (arith, g))
    (owned_ranged r.awaited r.beside (ranges_beside k r e) r.awaited set (ap (of_other set) (is_nothing r.awaited q)))

module _ {k : Sheet} {r : Registers} {set : CommandSet} {a : Result Registers Refusal} (f : IsSwitched k r set a) where
  -- 2, then 13, else none
  pub number_is : (told a).number ≡ cond (outside k r) out_of_range (cond (not (nothing_awaited r.awaited)) awaited_at_switch 0)
  unfolding switched
  number_is = ap (λ t. t.number) f.tells ∙ number_by_lem (outside k r) (not (nothing_awaited r.awaited)) (with_set r set)

  numbered : (e : Refusal) → Exactly (a ≡ Err e) (cond (outside k r) out_of_range (cond (not (nothing_awaited r.awaited)) awaited_at_switch 0) ≡ number_of e)
  numbered e = then (err_exactly a e) (same_number number_is)

  -- 2 exactly if a register is outside its range
  pub switch_2 : Exactly (a ≡ Err OutOfRange) (outside k r ≡ true)
  switch_2 =
      then (numbered OutOfRange)
      (here (outside k r) 2 _ (nowhere (not (nothing_awaited r.awaited)) 13 0 2 (λ e. omega arith) (λ e. omega arith)))

  -- 13 exactly if none is and a byte of either set is awaited
  pub switch_13 : Exactly (a ≡ Err AwaitedAtSwitch) ((outside k r ≡ false) × (not (nothing_awaited r.awaited) ≡ true))
  switch_13 =
      then (numbered AwaitedAtSwitch)
      (then (past (outside k r) 2 _ 13 (λ e. omega arith))
      (both (λ e. e, λ e. e) (here (not (nothing_awaited r.awaited)) 13 0 (λ e. omega arith))))

  -- else the set is switched, and nothing else moved
  pub switch_always : outside k r ≡ false → r.awaited ≡ awaited.Nothing → a ≡ Ok (with_set r set)
  unfolding switched
  switch_always e q = ok_told a (f.tells ∙ rw (e, q))

  -- and registers are given nowhere else
  pub switched_is : {n : Registers} → a ≡ Ok n → (n ≡ with_set r set) × (outside k r ≡ false) × (nothing_awaited r.awaited ≡ true)
  unfolding switched
  switched_is e =
      let d = done_by (outside k r) (not (nothing_awaited r.awaited)) (sym (ap told e) ∙ f.tells) in
      (d.0, d.1, not-false (nothing_awaited r.awaited) d.2)

  -- in range as they were
  pub switched_inside : {n : Registers} → a ≡ Ok n → outside k n ≡ false
  switched_inside e = let d = switched_is e in ap (outside k) d.0 ∙ set_inside k r set d.1 d.2

  -- no number but 2 and 13
  pub switch_only : {e : Refusal} → a ≡ Err e → (e ≡ OutOfRange) ⊎ (e ≡ AwaitedAtSwitch)
  unfolding switched
  switch_only {e} q = ⊎_elim (λ n. inl (number_one e OutOfRange n)) (λ n. inr (number_one e AwaitedAtSwitch n))
      (refused_by (outside k r) (not (nothing_awaited r.awaited)) (with_set r set) (sym (ap told q) ∙ f.tells))

  pub switch_not_0 : {e : Refusal} → a ≡ Err e → number_of e ≢ 0
  switch_not_0 {e} f = number_some e

-- ---- there and back: the registers are those from before

pub switch_back : {k : Sheet} {r n : Registers} {set : CommandSet} {b : Result Registers Refusal} → IsSwitched k r set (Ok n) → IsSwitched k n r.beside.set b → b ≡ Ok r
switch_back {k} {r} {n} f g =
    let d = switched_is f refl in
    let q : n.awaited ≡ awaited.Nothing = ap (λ x. x.awaited) d.0 ∙ is_nothing r.awaited d.2 in
    switch_always g (switched_inside f refl) q ∙ ap (λ x. Ok (with_set x r.beside.set)) d.0
