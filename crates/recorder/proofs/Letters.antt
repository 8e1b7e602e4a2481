-- Letters and digits are read back as they are written, and written back as they are read.
-- Assumes nothing.
use Prim.Native.Nat.{ℕ, zero, suc, ◌+◌, ◌≤◌, ◌<◌}
use mathlib.Core.Path.{◌≡◌, refl, ◌∙◌}
use mathlib.Core.Logic.{◌≢◌}
use mathlib.Core.Bool.{Bool, cond}
use mathlib.Core.List.{[], ◌∷◌}
use native.Mathlib.Omega.{arith}
use borrow.Author.Tests.{lt-ltb, le-ltb, le-leb, lt-leb, eqb-true}
use lib.Dec.{eqb}
use Rattle.paper.specs.Listed.{listed}
use Rattle.paper.proofs.Cases.{split, less, chosen}
use Rattle.jobs.specs.Text.{digit}
use Rattle.jobs.proofs.Digits.{digit_low, digit_high}
use Rattle.recorder.specs.Line.{letter_of, kind_by, digit_by}

-- ---- letters

pub kind_back : (k : ℕ) → k ≤ 5 → kind_by (letter_of k) ≡ k
unfolding kind_by letter_of
kind_back zero h = refl
kind_back (suc zero) h = refl
kind_back (suc (suc zero)) h = refl
kind_back (suc (suc (suc zero))) h = refl
kind_back (suc (suc (suc (suc zero)))) h = refl
kind_back (suc (suc (suc (suc (suc zero))))) h = refl
kind_back (suc (suc (suc (suc (suc (suc k)))))) h = absurd (omega arith)

pub letter_back : (c : ℕ) → kind_by c ≤ 5 → letter_of (kind_by c) ≡ c
unfolding kind_by letter_of
letter_back c h = split (eqb c 105) (λ t. rw (eqb-true c 105 t) refl)
    (λ a. split (eqb c 100) (λ t. rw (eqb-true c 100 t) refl)
    (λ b. split (eqb c 115) (λ t. rw (eqb-true c 115 t) refl)
    (λ d. split (eqb c 114) (λ t. rw (eqb-true c 114 t) refl)
    (λ e. split (eqb c 108) (λ t. rw (eqb-true c 108 t) refl)
    (λ f. split (eqb c 104) (λ t. rw (eqb-true c 104 t) refl)
    (λ g. absurd (let z = rw (a, b, d, e, f, g) at h in omega arith)))))))

-- all six in a row
pub letters_are : listed letter_of 0 6 ≡ 105 ∷ 100 ∷ 115 ∷ 114 ∷ 108 ∷ 104 ∷ []
unfolding letter_of
letters_are = refl

-- 0 is no letter's, so a text that has ended has none
pub letter_some : (k : ℕ) → letter_of k ≢ 0
unfolding letter_of
letter_some k =
    some (eqb k 0) (omega arith) (some (eqb k 1) (omega arith) (some (eqb k 2) (omega arith) (some (eqb k 3) (omega arith) (some (eqb k 4) (omega arith) (omega arith)))))
  where
    some : (t : Bool) {m n : ℕ} → m ≢ 0 → n ≢ 0 → cond t m n ≢ 0
    some t = chosen (λ (n : ℕ). n ≢ 0) t

-- ---- digits

-- c is a lower-case hex digit, or counts 256
pub data Digit (c : ℕ) : Type 0 where
  figure : digit_by c < 10 → c ≡ 48 + digit_by c → Digit c
  letter : 10 ≤ digit_by c → digit_by c < 16 → c ≡ 87 + digit_by c → Digit c
  other : digit_by c ≡ 256 → Digit c

pub digit_of : (c : ℕ) → Digit c
unfolding digit_by
digit_of c = less c 48
    (λ h. other (rw (lt-ltb c 48 h)))
    (λ h. less 57 c
    (λ k. less c 97
    (λ l. other (rw (le-ltb c 48 h, lt-leb c 57 k, lt-ltb c 97 l)))
    (λ l. less 102 c
    (λ m. other (rw (le-ltb c 48 h, lt-leb c 57 k, le-ltb c 97 l, lt-leb c 102 m)))
    (λ m. (
    let e : digit_by c + 87 ≡ c = rw (le-ltb c 48 h, lt-leb c 57 k, le-ltb c 97 l, le-leb c 102 m) (omega arith) in
    letter (omega arith) (omega arith) (omega arith)))))
    (λ k. (
    let e : digit_by c + 48 ≡ c = rw (le-ltb c 48 h, le-leb c 57 k) (omega arith) in
    figure (omega arith) (omega arith))))

below_by : (c : ℕ) → Digit c → digit_by c ≤ 255 → digit_by c < 16
below_by c (figure h e) b = omega arith
below_by c (letter h k e) b = k
below_by c (other e) b = absurd (omega arith)

-- what counts less than 256 counts less than 16
pub digit_below : (c : ℕ) → digit_by c ≤ 255 → digit_by c < 16
digit_below c b = below_by c (digit_of c) b

written_by : (c : ℕ) → Digit c → digit_by c < 16 → digit (digit_by c) ≡ c
written_by c (figure h e) b = digit_low (digit_by c) h ∙ (let z : 48 + digit_by c ≡ c = omega arith in z)
written_by c (letter h k e) b = digit_high (digit_by c) h ∙ (let z : 87 + digit_by c ≡ c = omega arith in z)
written_by c (other e) b = absurd (omega arith)

-- a digit that is read is written as it was
pub by_back : (c : ℕ) → digit_by c < 16 → digit (digit_by c) ≡ c
by_back c b = written_by c (digit_of c) b

-- a digit that is written is read as it was
pub digit_back : (d : ℕ) → d < 16 → digit_by (digit d) ≡ d
unfolding digit_by
digit_back d h = less d 10
    (λ l. rw (digit_low d l, le-ltb (48 + d) 48 (omega arith), le-leb (48 + d) 57 (omega arith)) (omega arith))
    (λ l. rw (digit_high d l, le-ltb (87 + d) 48 (omega arith), lt-leb (87 + d) 57 (omega arith), le-ltb (87 + d) 97 (omega arith), le-leb (87 + d) 102 (omega arith)) (omega arith))

-- nor is 0 a digit's
pub digit_some : (d : ℕ) → digit d ≢ 0
digit_some d z = less d 10 (λ l. let e = digit_low d l in absurd (omega arith)) (λ l. let e = digit_high d l in absurd (omega arith))
