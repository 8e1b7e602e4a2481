-- A list that a rule fills, and where a list strays from its rule.
-- Assumes nothing.
use Rattle.std.specs.Prelude.{ℕ, zero, suc, Bool, true, false, List, [], ◌∷◌, eqb}

-- f at i and the n - 1 numbers after it
abbrev pub listed : (ℕ → ℕ) → ℕ → ℕ → List ℕ
listed f i zero = []
listed f i (suc n) = f i ∷ listed f (suc i) n

-- a place ahead of a list, unless a test holds
abbrev pub unless : Bool → ℕ → List ℕ → List ℕ
unless true i l = l
unless false i l = i ∷ l

-- the places, from i on, at which an entry is not the rule's value
abbrev pub astray : (ℕ → ℕ) → ℕ → List ℕ → List ℕ
astray f i [] = []
astray f i (x ∷ l) = unless (eqb x (f i)) i (astray f (suc i) l)
