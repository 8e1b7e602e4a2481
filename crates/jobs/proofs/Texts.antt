-- Texts put into one output after the other.
-- Assumes nothing.
use Prim.Native.Nat.{ℕ, ◌+◌, ◌-◌, ◌/◌, ◌%◌, ◌≤◌, ◌<◌}
use mathlib.Core.Path.{◌≡◌, refl, ap, ◌∙◌}
use mathlib.Core.List.{List, [], ◌∷◌, ◌++◌}
use native.Mathlib.Numerals.{add-one}
use native.Mathlib.Omega.{arith}
use lib.ListN.{take, get_or, length}
use lib.Seq.{take-suc}
use Rattle.jobs.specs.Text.{decimal_up_to, digit}
use Rattle.jobs.specs.Texts.{Puts}
use Rattle.jobs.specs.declared.text.Text.{Text}
use Rattle.jobs.proofs.Putting.{put_then, put_most, put_no_digits, put_one_digit, put_more_digits}

pub puts_then : {a b c : Text} {t u : List ℕ} {j k : ℕ} → Puts a t b j → Puts b u c k → Puts a (t ++ u) c (j + k)
puts_then p q = record { same = q.same ∙ p.same; put = put_then p.put q.put }

pub puts_most : {a b : Text} {t : List ℕ} {j k : ℕ} → j ≤ k → Puts a t b j → Puts a t b k
puts_most h p = record { same = p.same; put = put_most h p.put }

-- one more letter of those that are to be put
pub puts_letter : {a b c : Text} (t : List ℕ) (i : ℕ) → i < length t → Puts a (take i t) b i → Puts b (get_or t i 0 ∷ []) c 1
    → Puts a (take (i + 1) t) c (i + 1)
puts_letter t i h p q = rw (add-one, take-suc t i 0 h) (rw add-one at (puts_then p q))

-- ---- a number's digits: none left to put, only one, and the last after those before it

pub puts_no_digits : (a : Text) (most n : ℕ) → most ≡ 0 → Puts a (decimal_up_to most n) a most
puts_no_digits a most n e = record { same = refl; put = put_no_digits a.out.now a.at most n e }

module _ {a c : Text} (most n : ℕ) (some : most ≡ 0 → ⊥) where
  pub puts_one_digit : n < 10 → Puts a (digit (n % 10) ∷ []) c 1 → Puts a (decimal_up_to most n) c most
  puts_one_digit k p = let e : n % 10 ≡ n = omega arith in record { same = p.same; put = put_one_digit _ _ most n some k (ap digit e) p.put }

  pub puts_more_digits : {b : Text} → 10 ≤ n → Puts a (decimal_up_to (most - 1) (n / 10)) b (most - 1) → Puts b (digit (n % 10) ∷ []) c 1
      → Puts a (decimal_up_to most n) c most
  puts_more_digits k p q = record { same = q.same ∙ p.same; put = put_more_digits _ _ most n some k refl p.put q.put }
