-- The cycles of a list of stretches: what goes ahead of each, how lists follow one another, how long it all is, and that they write and
-- never read. The page byte depends only on the page of the stretch before.
-- Assumes nothing.
use Prim.Native.Nat.{ℕ, suc, ◌+◌, ◌≤◌, ◌<◌}
use mathlib.Core.Path.{◌≡◌, refl, ap, ◌∙◌}
use mathlib.Core.Logic.{◌≢◌, inl, inr}
use mathlib.Core.Bool.{true, false}
use mathlib.Core.Option.{Option, none, some}
use mathlib.Core.List.{List, [], ◌∷◌, ◌++◌, map, append_assoc}
use native.Mathlib.Omega.{arith}
use lib.ListN.{length, length-append, length-map}
use borrow.Author.Tests.{eq-eqb, ne_eqb}
use Rattle.paper.proofs.Cases.{chosen}
use Rattle.controller.specs.Run.{BusCycle}
use Rattle.controller.specs.Chip.{page_cycle, data_cycle}
use Rattle.controller.proofs.Marks.{NoRead, HasWrite}
use Rattle.streams.specs.Stretch.{Stretch, Place, end_of, OfKind, on_it, column_bytes, address, emit_by, emit, after}

-- ---- what goes ahead of a stretch

pub address_on : (before : Option Place) (x : Stretch) → on_it before x.page ≡ true → address before x ≡ column_bytes x.start
unfolding address
address_on before x e = rw e

pub address_off : (before : Option Place) (x : Stretch) → on_it before x.page ≡ false
    → address before x ≡ page_cycle x.page ∷ column_bytes x.start
unfolding address
address_off before x e = rw e

pub on_same : (l : Place) (p : ℕ) → l.page ≡ p → on_it (some l) p ≡ true
unfolding on_it
on_same l p e = eq-eqb l.page p e

-- the stretch before was on a page below p
abbrev pub Under : Option Place → ℕ → Type 0
Under none p = Unit {0}
Under (some l) p = l.page < p

pub under_off : (before : Option Place) (p : ℕ) → Under before p → on_it before p ≡ false
unfolding on_it
under_off none p u = refl
under_off (some l) p u = ne_eqb l.page p (omega arith)

pub under_next : (before : Option Place) (p : ℕ) → Under before p → Under before (suc p)
under_next none p u = tt
under_next (some l) p u = omega arith

-- ---- the cycles

pub emit_nil : (before : Option Place) → emit before [] ≡ []
unfolding emit_by
emit_nil before = refl

pub emit_append : (before : Option Place) (xs ys : List Stretch) → emit before (xs ++ ys) ≡ emit before xs ++ emit (after before xs) ys
unfolding emit_by after
emit_append before [] ys = refl
emit_append before (x ∷ xs) ys = rw (emit_append (some (end_of x)) xs ys) (simp append_assoc)

-- only the page of the stretch before counts
pub emit_place : (l m : Place) (xs : List Stretch) → l.page ≡ m.page → emit (some l) xs ≡ emit (some m) xs
unfolding emit_by address on_it
emit_place l m [] e = refl
emit_place l m (x ∷ xs) e = rw e

pub cons_length : (before : Option Place) (x : Stretch) (xs : List Stretch)
    → length (emit before (x ∷ xs)) ≡ length (address before x) + length x.content + length (emit (some (end_of x)) xs)
unfolding emit_by
cons_length before x xs = simp (length-append, length-map) (omega arith)

-- ---- no data read is among them, and with a stretch that is not empty a data write is

-- a kind below 3 is no data read's
pub unread : (kind : ℕ) → kind < 3 → kind ≢ 3
unread kind h e = omega arith

no_read_append : (xs ys : List BusCycle) → NoRead xs → NoRead ys → NoRead (xs ++ ys)
no_read_append [] ys h g = g
no_read_append (x ∷ xs) ys h g = (h.0, no_read_append xs ys h.1 g)

no_read_data : (bs : List ℕ) → NoRead (map data_cycle bs)
no_read_data [] = tt
no_read_data (b ∷ bs) = (unread 1 (omega arith), no_read_data bs)

no_read_address : (before : Option Place) (x : Stretch) → NoRead (address before x)
unfolding address
no_read_address before x =
    let no = unread 0 (omega arith) in
    chosen (λ (l : List BusCycle). NoRead (l ++ column_bytes x.start)) (on_it before x.page) (no, (no, tt)) (no, (no, (no, tt)))

pub emit_no_read : (before : Option Place) (xs : List Stretch) → NoRead (emit before xs)
unfolding emit_by
emit_no_read before [] = tt
emit_no_read before (x ∷ xs) =
    no_read_append (address before x) _ (no_read_address before x) (no_read_append (map data_cycle x.content) _ (no_read_data x.content) (emit_no_read (some (end_of x)) xs))

write_before : (xs ys : List BusCycle) → HasWrite xs → HasWrite (xs ++ ys)
write_before [] ys w = elim w [ ]
write_before (x ∷ xs) ys (inl e) = inl e
write_before (x ∷ xs) ys (inr w) = inr (write_before xs ys w)

write_after : (xs ys : List BusCycle) → HasWrite ys → HasWrite (xs ++ ys)
write_after [] ys w = w
write_after (x ∷ xs) ys w = inr (write_after xs ys w)

data_has_write : (bs : List ℕ) (ys : List BusCycle) → 1 ≤ length bs → HasWrite (map data_cycle bs ++ ys)
data_has_write [] ys h = absurd (omega arith)
data_has_write (b ∷ bs) ys h = inl refl

pub emit_has_write : (before : Option Place) (x : Stretch) (xs : List Stretch) → 1 ≤ length x.content → HasWrite (emit before (x ∷ xs))
unfolding emit_by
emit_has_write before x xs h = write_after (address before x) _ (data_has_write x.content _ h)

-- no data read, and a data write where there is anything at all
abbrev pub Writes : List BusCycle → Type 0
Writes xs = NoRead xs × (xs ≢ [] → HasWrite xs)

-- no bytes, or some
pub none_or_some : (l : List BusCycle) {X : Type 0} → (l ≡ [] → X) → (l ≢ [] → X) → X
none_or_some [] f g = f refl
none_or_some (x ∷ l) f g = g (λ e. let z : ◌≡◌ {A = ℕ} (suc (length l)) 0 = ap length e in omega arith)

pub writes_append : (xs ys : List BusCycle) → Writes xs → Writes ys → Writes (xs ++ ys)
writes_append xs ys f g = (
  no_read_append xs ys f.0 g.0,
  λ h. none_or_some xs
      (λ e. let z : xs ++ ys ≡ ys = rw e in write_after xs ys (g.1 (λ n. h (z ∙ n))))
      (λ s. write_before xs ys (f.1 s)),
)

pub emit_writes : (W : ℕ) (before : Option Place) (xs : List Stretch) → OfKind W xs → Writes (emit before xs)
emit_writes W before [] ok = (emit_no_read before [], λ h. absurd (h (emit_nil before)))
emit_writes W before (x ∷ xs) ok = (emit_no_read before (x ∷ xs), λ h. emit_has_write before x xs ok.1)
