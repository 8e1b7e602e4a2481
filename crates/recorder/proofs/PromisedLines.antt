-- read_text answers 11 with the first bad line, then 6, then 5, each exactly when its words hold, and nothing else; 11 comes only with its
-- line; a refusal leaves the output; and an output that is long enough gets the cycles that have the text.
-- Assumes nothing.
use Prim.Native.Nat.{ℕ, ◌*◌, ◌≤◌, ◌<◌}
use mathlib.Core.Path.{◌≡◌, refl, sym, ap, subst, ◌∙◌}
use mathlib.Core.Logic.{◌≢◌, ◌⊎◌, inl, inr, ⊎_elim}
use mathlib.Core.Bool.{Bool, true, cond}
use mathlib.Core.List.{List}
use native.Mathlib.Omega.{arith}
use borrow.Author.Tests.{le-ltb, ne_eqb}
use lib.Dec.{ltb}
use lib.ListN.{length, take, drop}
use lib.Seq.{take_at}
use Rattle.std.specs.Prelude.{Result, Ok, Err}
use Rattle.paper.specs.Over.{over}
use Rattle.paper.specs.Refusal.{number_of}
use Rattle.paper.specs.declared.refusal.Refusal.{Refusal}
use Rattle.paper.specs.declared.refusal.Refusal.TheVariants.{OutsideField, ShortOutput}
use Rattle.paper.proofs.Cases.{split}
use Rattle.paper.proofs.Exactly.{Exactly, then, both, below, not_below, same_number, here, past, nowhere}
use Rattle.paper.proofs.Telling.{number_one, number_some, some_one, none_some}
use Rattle.bus.specs.Cycles.{cycles_of}
use Rattle.recorder.specs.Cycles.{bytes_of}
use Rattle.recorder.specs.Text.{cycles_in, bad_text, read_refusal, told_lines, IsReadText}
use Rattle.recorder.specs.declared.text.Unread.{Unread}
use Rattle.recorder.specs.declared.text.Unread.TheVariants.{BadLine, Refused}
use Rattle.recorder.proofs.CycleBytes.{bytes_length, bytes_cycles}
use Rattle.recorder.proofs.Meaning.{HasCycles, good_exactly, FirstBad, first_bad, first_one}
use Rattle.recorder.proofs.Promised.{lines_told}

-- a number other than 0 and 11 is a refusal's without a line
lines_refused : (r : Refusal) (a : Result ℕ Unread) → number_of r ≢ 11 → Exactly (a ≡ Err (Refused r)) ((told_lines a).number ≡ number_of r)
lines_refused r (Ok k) l = (λ e. ap (λ x. (told_lines x).number) e, λ e. absurd (number_some r (sym e)))
lines_refused r (Err (BadLine k)) l = (λ e. ap (λ x. (told_lines x).number) e, λ e. absurd (l (sym e)))
lines_refused r (Err (Refused s)) l = (λ e. ap (λ x. (told_lines x).number) e, λ e. ap (λ (x : Refusal). Err (Refused x)) (number_one s r e))

module _ (text out : List ℕ) where
  abbrev many : Bool
  many = ltb 16000 (length (cycles_in text))

  abbrev brief : Bool
  brief = ltb (length out) (2 * length (cycles_in text))

  number_is : read_refusal text out ≡ cond (bad_text text) 11 (cond many 6 (cond brief 5 0))
  unfolding read_refusal
  number_is = refl

  module _ (a : Result ℕ Unread) (left : List ℕ) (f : IsReadText text out a left) where
    told : (told_lines a).number ≡ cond (bad_text text) 11 (cond many 6 (cond brief 5 0))
    told = ap (λ t. t.number) f.tells ∙ number_is

    bad_answer : bad_text text ≡ true → a ≡ Err (BadLine (length (cycles_in text)))
    bad_answer b = let e : read_refusal text out ≡ 11 = number_is ∙ rw b refl in lines_told a (Err (BadLine (length (cycles_in text)))) (f.tells ∙ rw e refl)

    is_bad : (told_lines a).number ≡ 11 → bad_text text ≡ true
    is_bad e =
        (here (bad_text text) 11 (cond many 6 (cond brief 5 0)) (nowhere many 6 (cond brief 5 0) 11 (λ z. omega arith) (nowhere brief 5 0 11 (λ z. omega arith) (λ z. omega arith)))).0
        (sym told ∙ e)

    pub lines_11 : (n : ℕ) → Exactly (a ≡ Err (BadLine n)) (FirstBad text n)
    lines_11 n = (
      λ e. (
          let b = is_bad (ap (λ x. (told_lines x).number) e) in
          let l : length (cycles_in text) ≡ n = some_one (ap (λ x. (told_lines x).line) (sym (bad_answer b) ∙ e)) in
          subst (FirstBad text) l (first_bad text b)),
      λ w. (let o = first_one text n w in bad_answer o.0 ∙ ap (λ (k : ℕ). Err (BadLine k)) o.1),
    )

    pub lines_6 : Exactly (a ≡ Err (Refused OutsideField)) (HasCycles text × (16000 < length (cycles_in text)))
    lines_6 =
        then (lines_refused OutsideField a (λ e. omega arith))
        (then (same_number told)
        (then (past (bad_text text) 11 (cond many 6 (cond brief 5 0)) 6 (λ e. omega arith))
        (both (good_exactly text) (then (here many 6 (cond brief 5 0) (nowhere brief 5 0 6 (λ e. omega arith) (λ e. omega arith))) (below _)))))

    pub lines_5 : Exactly (a ≡ Err (Refused ShortOutput)) (HasCycles text × ((length (cycles_in text) ≤ 16000) × (length out < 2 * length (cycles_in text))))
    lines_5 =
        then (lines_refused ShortOutput a (λ e. omega arith))
        (then (same_number told)
        (then (past (bad_text text) 11 (cond many 6 (cond brief 5 0)) 5 (λ e. omega arith))
        (both (good_exactly text)
        (then (past many 6 (cond brief 5 0) 5 (λ e. omega arith))
        (both (not_below _) (then (here brief 5 0 (λ e. omega arith)) (below (2 * length (cycles_in text)))))))))

    -- a text that good cycles have, few enough, and an output that is long enough: the cycles
    pub lines_long : HasCycles text → length (cycles_in text) ≤ 16000 → 2 * length (cycles_in text) ≤ length out
        → (a ≡ Ok (length (cycles_in text))) × (left ≡ over (bytes_of (cycles_in text)) out)
    lines_long h few room =
        let e : read_refusal text out ≡ 0 = number_is ∙ rw ((good_exactly text).1 h, le-ltb _ _ few, le-ltb _ _ room) refl in
        (lines_told a (Ok (length (cycles_in text))) (f.tells ∙ rw e refl), f.leaves ∙ rw e refl)

    -- 32,000 bytes always are
    pub lines_always : HasCycles text → length (cycles_in text) ≤ 16000 → 32000 ≤ length out
        → (a ≡ Ok (length (cycles_in text))) × (left ≡ over (bytes_of (cycles_in text)) out)
    lines_always h few room = lines_long h few (omega arith)

    -- whatever is answered but cycles leaves the output
    pub lines_refused_leaves : (told_lines a).number ≢ 0 → left ≡ out
    lines_refused_leaves h =
        let e : read_refusal text out ≢ 0 = λ z. h (ap (λ t. t.number) f.tells ∙ z) in
        f.leaves ∙ rw (ne_eqb (read_refusal text out) 0 e) refl

  pub lines_only : (r : Refusal) (left : List ℕ) → IsReadText text out (Err (Refused r)) left → (r ≡ OutsideField) ⊎ (r ≡ ShortOutput)
  lines_only r left f = split (bad_text text)
      (λ b. let e = ap (λ x. (told_lines x).line) (bad_answer (Err (Refused r)) left f b) in absurd (none_some e))
      (λ b. split many
      (λ m. let e : number_of r ≡ 6 = told (Err (Refused r)) left f ∙ rw (b, m) refl in inl (number_one r OutsideField e))
      (λ m. split brief
      (λ s. let e : number_of r ≡ 5 = told (Err (Refused r)) left f ∙ rw (b, m, s) refl in inr (number_one r ShortOutput e))
      (λ s. (
      let e = (lines_long (Err (Refused r)) left f ((good_exactly text).0 b) ((not_below _).0 m) ((not_below _).0 s)).0 in
      absurd (none_some (ap (λ x. (told_lines x).cycles) e))))))

  pub lines_not_0 : (r : Refusal) (left : List ℕ) → IsReadText text out (Err (Refused r)) left → number_of r ≢ 0
  lines_not_0 r left f = number_some r

  -- 11 comes with its line
  pub lines_not_11 : (r : Refusal) (left : List ℕ) → IsReadText text out (Err (Refused r)) left → number_of r ≢ 11
  lines_not_11 r left f = ⊎_elim (λ e. rw e (λ n. omega arith)) (λ e. rw e (λ n. omega arith)) (lines_only r left f)

  -- cycles are answered only where a text has them, they are few enough and there is room; and all of them are
  pub lines_0 : (n : ℕ) (left : List ℕ) → IsReadText text out (Ok n) left
      → (n ≡ length (cycles_in text)) × (HasCycles text × ((length (cycles_in text) ≤ 16000) × (2 * length (cycles_in text) ≤ length out)))
  lines_0 n left f =
      let e : read_refusal text out ≡ 0 = sym (ap (λ t. t.number) f.tells) in
      let b = (past (bad_text text) 11 (cond many 6 (cond brief 5 0)) 0 (λ z. omega arith)).0 (sym number_is ∙ e) in
      let m = (past many 6 (cond brief 5 0) 0 (λ z. omega arith)).0 b.1 in
      let s = (past brief 5 0 0 (λ z. omega arith)).0 m.1 in
      (some_one (ap (λ t. t.cycles) f.tells ∙ rw e refl), ((good_exactly text).0 b.0, ((not_below _).0 m.0, (not_below _).0 s.0)))

  -- what it puts out is, as a list of cycles, what the text says
  pub lines_read : (n : ℕ) (left : List ℕ) → IsReadText text out (Ok n) left → cycles_of (take (2 * n) left) ≡ cycles_in text
  lines_read n left f =
      let e : read_refusal text out ≡ 0 = sym (ap (λ t. t.number) f.tells) in
      let m = (lines_0 n left f).0 in
      let k : length (bytes_of (cycles_in text)) ≡ 2 * n = bytes_length (cycles_in text) ∙ rw m refl in
      ap (λ (l : List ℕ). cycles_of (take (2 * n) l)) (f.leaves ∙ rw e refl)
      ∙ ap cycles_of (take_at (bytes_of (cycles_in text)) (drop (length (bytes_of (cycles_in text))) out) (2 * n) k)
      ∙ bytes_cycles (cycles_in text)
