-- What the calls of the new command set promise in C: one answer, each number exactly when, and a refusal that leaves what it was lent.
-- Assumes nothing.
use Prim.Native.Nat.{ℕ, ◌≤◌, ◌<◌}
use mathlib.Core.Path.{◌≡◌, ◌∙◌, refl, ap, sym, subst}
use mathlib.Core.Logic.{◌≢◌}
use mathlib.Core.Bool.{false, cond, not, ◌&&◌, ◌||◌}
use mathlib.Core.Option.{some}
use mathlib.Core.List.{List}
use native.Mathlib.Omega.{arith}
use lib.Dec.{ltb}
use borrow.Author.Tests.{ltb-false, le-ltb}
use Rattle.paper.specs.Refusal.{out_of_range, unassigned, outside_field, awaited_at_switch}
use Rattle.std.specs.Prelude.{Result, Ok, Err}
use Rattle.paper.specs.Told.{told}
use Rattle.paper.specs.declared.refusal.Refusal.{Refusal}
use Rattle.paper.proofs.Refusing.{told_silent}
use Rattle.paper.specs.declared.sheet.Sheet.{Sheet}
use Rattle.paper.proofs.Answering.{answers_one, if_split, if_both, refusal_leaves}
use Rattle.paper.proofs.Telling.{some_one, none_some, not_given}
use Rattle.paper.proofs.Exactly.{Exactly, then, both, same_number, past, only}
use Rattle.instructions.specs.Read.{nothing_awaited}
use Rattle.instructions.specs.Added.{of_other, assigned_added, write_added, OutsideAdded, IsWrittenAdded}
use Rattle.instructions.specs.declared.added.CommandSet.TheVariants.{New}
use Rattle.instructions.proofs.Unique.{number_by, read_added_one, written_added_one, number_added, number_added_6}
use Rattle.registers.specs.Registers.{outside}
use Rattle.registers.specs.declared.Registers.{Registers}
use Rattle.registers.proofs.Switching.{switched_one, number_is, switched_inside}
use Rattle.state.specs.Packed.{awaited_of, unpacked}
use Rattle.state.specs.Unfit.{unfit}
use Rattle.state.proofs.Accepting.{Accepted, accepted_left}
use Rattle.face.specs.Added.{named_added, ReadAddedOut, WriteAddedOut, SwitchedOn, SwitchOut}
use Rattle.face.proofs.Promised.{Writable, Unwritable, written_by_one, writable, unwritable}

-- ---- the reader

module _ (aw byte : ℕ) (before : ℕ × ℕ) where
  pub read_added_out_one : {a b : ℕ × ℕ} {r r' : ℕ} → ReadAddedOut aw byte before a r → ReadAddedOut aw byte before b r' → (a ≡ b) × (r ≡ r')
  read_added_out_one f g =
      answers_one (ap told (if_both (ltb 5 aw) f.promised g.promised (λ p q. p ∙ sym q) (λ p q. read_added_one p q))) f.answers g.answers

  module _ (h : byte < 256) {a : ℕ × ℕ} {r : ℕ} (f : ReadAddedOut aw byte before a r) where
    -- 2 where the awaited byte is none of the six or one of the old set, then 4
    pub read_added_number : r ≡ cond (ltb 5 aw) out_of_range (number_by (of_other New (awaited_of aw)) (nothing_awaited (awaited_of aw)) (assigned_added byte))
    read_added_number = f.answers.number ∙ if_split (ltb 5 aw) f.promised
        (λ t p. ap (λ a. (told a).number) p ∙ rw t refl)
        (λ t p. ap (λ x. x.number) p.tells ∙ (number_added byte h (awaited_of aw)).0 ∙ rw t refl)

    pub read_added_0 : Exactly (r ≡ 0) ((aw ≤ 5) × ((of_other New (awaited_of aw) ≡ false) × ((nothing_awaited (awaited_of aw) && not (assigned_added byte)) ≡ false)))
    read_added_0 =
        then (same_number read_added_number)
        (then (past (ltb 5 aw) out_of_range _ 0 (λ e. omega arith))
        (both (ltb-false 5 aw, le-ltb 5 aw)
        (then (past (of_other New (awaited_of aw)) out_of_range _ 0 (λ e. omega arith))
        (both (λ e. e, λ e. e) (only (nothing_awaited (awaited_of aw) && not (assigned_added byte)) unassigned (λ e. omega arith))))))

  pub read_added_refused_leaves : {out' : ℕ × ℕ} {r : ℕ} → ReadAddedOut aw byte before out' r → r ≢ 0 → out' ≡ before
  read_added_refused_leaves f h = refusal_leaves told_silent f h

-- ---- the writer

module _ (number value byte : ℕ) where
  pub write_added_out_one : {a b r r' : ℕ} → WriteAddedOut number value byte a r → WriteAddedOut number value byte b r' → (a ≡ b) × (r ≡ r')
  write_added_out_one f g =
      answers_one (ap told (written_by_one IsWrittenAdded (λ i a b p q. written_added_one p q) (named_added number value) f.answer g.answer f.promised g.promised))
      f.answers g.answers

  pub write_added_0 : {a r : ℕ} → WriteAddedOut number value byte a r → Exactly (r ≡ 0) (Writable write_added (named_added number value))
  write_added_0 {r = r} f = writable IsWrittenAdded write_added (λ i a p. p.tells) f.answer r f.answers.number (named_added number value) f.promised

  pub write_added_6 : {a r : ℕ} → WriteAddedOut number value byte a r → Exactly (r ≡ outside_field) (Unwritable OutsideAdded (named_added number value))
  write_added_6 {r = r} f =
      unwritable IsWrittenAdded write_added (λ i a p. p.tells) f.answer r f.answers.number OutsideAdded number_added_6 (named_added number value) f.promised

  pub write_added_refused_leaves : {byte' r : ℕ} → WriteAddedOut number value byte byte' r → r ≢ 0 → byte' ≡ byte
  write_added_refused_leaves f h = refusal_leaves told_silent f h

-- ---- the switch

module _ (k : Sheet) (s : List ℕ) (set : ℕ) where
  pub switch_out_one : {a b : List ℕ} {r r' : ℕ} → SwitchOut k s set a r → SwitchOut k s set b r' → (a ≡ b) × (r ≡ r')
  switch_out_one f g =
      answers_one (ap told (if_both (unfit s || ltb 1 set) f.promised g.promised (λ p q. p ∙ sym q) (λ p q. switched_one p q))) f.answers g.answers

  pub switch_refused_leaves : {s' : List ℕ} {r : ℕ} → SwitchOut k s set s' r → r ≢ 0 → s' ≡ s
  switch_refused_leaves f h = refusal_leaves told_silent f h

  module _ {s' : List ℕ} {r : ℕ} (f : SwitchOut k s set s' r) where
    -- 2 where the state stands for no registers, the set is neither, or a register is outside its range; then 13
    pub switch_number : r ≡ cond (unfit s || ltb 1 set) out_of_range (cond (outside k (unpacked s)) out_of_range (cond (not (nothing_awaited (unpacked s).awaited)) awaited_at_switch 0))
    switch_number = f.answers.number ∙ if_split (unfit s || ltb 1 set) f.promised
        (λ t p. ap (λ a. (told a).number) p ∙ rw t refl)
        (λ t p. number_is p ∙ rw t refl)

    -- whatever the switch, an accepted state stays one
    pub switch_again : Accepted k s → Accepted k s'
    switch_again a = accepted_left k s (told f.answer).value a (by_answer f.answer f.promised) f.answers.left
      where
        by_answer : (x : Result Registers Refusal) → SwitchedOn k s set x → (n : Registers) → (told x).value ≡ some n → outside k n ≡ false
        by_answer (Ok q) p n e = if_split (unfit s || ltb 1 set) p
            (λ t u. absurd (not_given (sym (ap told u))))
            (λ t u. subst (λ (y : Registers). outside k y ≡ false) (some_one e) (switched_inside u refl))
        by_answer (Err q) p n e = absurd (none_some e)
