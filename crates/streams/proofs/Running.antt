-- What a list of stretches does to any chip that keeps the laws: no cycle is refused, the view afterwards is `drawn_all`, and
-- whatever every data byte keeps of the memory holds all along. One induction, over anything that may go ahead of a stretch and
-- brings the chip to its page and start.
-- Assumes nothing.
use Prim.Native.Nat.{ℕ, zero, suc, ◌+◌, ◌*◌, ◌/◌, ◌%◌, ◌≤◌, ◌<◌}
use mathlib.Core.Path.{◌≡◌, refl, sym, ◌∙◌, ap}
use mathlib.Core.Bool.{true, false≢true}
use mathlib.Core.Option.{Option, none, some}
use mathlib.Core.List.{List, [], ◌∷◌, ◌++◌, map}
use native.Mathlib.Nat.{add-zero}
use native.Mathlib.Omega.{arith}
use lib.ListN.{length, take, replicate, length-append, replicate-append-replicate}
use borrow.Author.Tests.{eqb-true}
use Rattle.paper.proofs.Cases.{split}
use Rattle.controller.specs.Memory.{stored}
use Rattle.controller.specs.Run.{BusCycle, run_by, numbers_by}
use Rattle.controller.proofs.Cells.{stored_length}
use Rattle.controller.specs.Chip.{page_cycle, high_cycle, low_cycle, data_cycle, View, on_page, on_column, wrote, Chip}
use Rattle.streams.specs.Stretch.{Stretch, Place, end_of, OfKind, on_it, column_bytes, address, emit_by, emit}
use Rattle.streams.specs.Paint.{store_all, paint, last_of, drawn, drawn_all}
use Rattle.streams.specs.Demand.{Leaves}
use Rattle.streams.proofs.Emitting.{address_on, address_off}

module _ {W : ℕ} (C : Chip W) where
  open C use {State, Rest, view, Ready, number, step, page_law, high_law, low_law, data_law}

  -- ---- lists of cycles

  -- every cycle is accepted, and P holds now and after each
  abbrev pub Along : (State → Type 0) → State → List BusCycle → Type 0
  Along P s [] = P s
  Along P s (c ∷ cs) = P s × (number s c ≡ 0) × Along P (step s c) cs

  pub along_take : (P : State → Type 0) (s : State) (cs : List BusCycle) → Along P s cs → (n : ℕ) → Along P s (take n cs)
  along_take P s [] a zero = a
  along_take P s [] a (suc n) = a
  along_take P s (c ∷ cs) a zero = a.0
  along_take P s (c ∷ cs) a (suc n) = (a.0, a.1, along_take P (step s c) cs a.2 n)

  pub along_end : (P : State → Type 0) (s : State) (cs : List BusCycle) → Along P s cs → P (run_by step s cs)
  along_end P s [] a = a
  along_end P s (c ∷ cs) a = along_end P (step s c) cs a.2

  pub along_accepted : (P : State → Type 0) (s : State) (cs : List BusCycle) → Along P s cs → numbers_by step number s cs ≡ replicate (length cs) 0
  along_accepted P s [] a = refl
  along_accepted P s (c ∷ cs) a = rw (a.1, along_accepted P (step s c) cs a.2)

  pub along_map : (P Q : State → Type 0) → ((s : State) → P s → Q s) → (s : State) (cs : List BusCycle) → Along P s cs → Along Q s cs
  along_map P Q f s [] a = f s a
  along_map P Q f s (c ∷ cs) a = (f s a.0, a.1, along_map P Q f (step s c) cs a.2)

  -- ready, and showing v
  abbrev pub At : State → View Rest → Type 0
  At t v = Ready t × (view t ≡ v)

  -- from s the cycles are accepted, P holds all along, and they end at v
  abbrev pub Goes : (State → Type 0) → State → List BusCycle → View Rest → Type 0
  Goes P s cs v = Along P s cs × At (run_by step s cs) v

  pub goes_append : (P : State → Type 0) (s : State) (xs ys : List BusCycle) (u v : View Rest) → Goes P s xs u
      → (At (run_by step s xs) u → Goes P (run_by step s xs) ys v) → Goes P s (xs ++ ys) v
  goes_append P s [] ys u v g f = f g.1
  goes_append P s (c ∷ xs) ys u v g f =
      let h = goes_append P (step s c) xs ys u v (g.0.2, g.1) f in
      ((g.0.0, g.0.1, h.0), h.1)

  -- ready, the memory is as Q says, and the rest is e
  abbrev pub Holds : (List ℕ → Type 0) → Rest → State → Type 0
  Holds Q e s = Ready s × Q (view s).memory × ((view s).rest ≡ e)

  pub holds : (Q : List ℕ → Type 0) (s : State) (v : View Rest) → At s v → Q v.memory → Holds Q v.rest s
  holds Q s v h q = (h.0, rw h.1 q, rw h.1 refl)

  -- ---- what goes ahead of a stretch

  -- the chip stands where the stretch before ended
  abbrev pub Agrees : Option Place → View Rest → Type 0
  Agrees none v = Unit {0}
  Agrees (some l) v = (v.page ≡ l.page) × (v.column ≡ l.column)

  -- at the stretch's page and start; holder, memory and rest stay
  abbrev pub placed : Stretch → View Rest → View Rest
  placed x v = on_column x.start (on_page x.page v)

  -- what is asked of it: it is accepted, and brings the chip to the stretch's page and start
  abbrev pub Lands : (Option Place → Stretch → List BusCycle) → Type 0
  Lands ahead = (before : Option Place) (x : Stretch) (s : State) (v : View Rest) → At s v → Agrees before v → x.page ≤ 15 → x.start < W
      → Goes (Holds (λ m. m ≡ v.memory) v.rest) s (ahead before x) (placed x v)

  pub agrees_page : (before : Option Place) (p : ℕ) (v : View Rest) → Agrees before v → on_it before p ≡ true → on_page p v ≡ v
  unfolding on_it
  agrees_page none p v a e = absurd (false≢true e)
  agrees_page (some l) p v a e = ap (λ (x : ℕ). on_page x v) (sym (a.0 ∙ eqb-true l.page p e))

  columns_land : (c : ℕ) (s : State) (v : View Rest) → At s v → c < W
      → Goes (Holds (λ m. m ≡ v.memory) v.rest) s (column_bytes c) (on_column c v)
  columns_land c s v h hc =
      let Q : List ℕ → Type 0 = λ m. m ≡ v.memory in
      let a = high_law s (c / 16) h.0 (omega arith) in
      let u = on_column (16 * (c / 16) + v.column % 16) v in
      let ha : At (step s (high_cycle (c / 16))) u = (a.1, a.2 ∙ rw h.1 refl) in
      let b = low_law (step s (high_cycle (c / 16))) (c % 16) a.1 (omega arith) in
      let hb : At (step (step s (high_cycle (c / 16))) (low_cycle (c % 16))) (on_column c v) =
      (b.1, b.2 ∙ rw ha.1 (ap (λ (x : ℕ). on_column x v) (omega arith))) in
      ((holds Q s v h refl, a.0, (holds Q _ u ha refl, b.0, holds Q _ (on_column c v) hb refl)), hb)

  pub address_lands : Lands address
  address_lands before x s v h a hp hs = split (on_it before x.page)
      (λ t. rw (address_on before x t)
      (columns_land x.start s (on_page x.page v) (h.0, h.1 ∙ sym (agrees_page before x.page v a t)) hs))
      (λ t. rw (address_off before x t)
      (let l = page_law s x.page h.0 hp in
      let g = columns_land x.start (step s (page_cycle x.page)) (on_page x.page v) (l.1, l.2 ∙ ap (on_page x.page) h.1) hs in
      ((holds (λ m. m ≡ v.memory) s v h refl, l.0, g.0), g.1)))

  -- ---- the data of one stretch

  -- each of the bytes, stored, keeps Q
  abbrev pub Safe : (List ℕ → Type 0) → ℕ → ℕ → List ℕ → Type 0
  Safe Q p c [] = Unit {0}
  Safe Q p c (b ∷ bs) = ((m : List ℕ) → Q m → Q (stored W m p c b)) × Safe Q p (suc c) bs

  -- the view after the bytes, with the column given
  finish : ℕ → View Rest → List ℕ → View Rest
  finish c v bs = record {
    page = v.page;
    column = c;
    holder = last_of v.holder bs;
    memory = store_all W v.memory v.page v.column bs;
    rest = v.rest;
  }

  data_goes : (Q : List ℕ → Type 0) (bs : List ℕ) (s : State) (v : View Rest) → At s v → v.column + length bs ≤ W
      → Safe Q v.page v.column bs → Q v.memory → Goes (Holds Q v.rest) s (map data_cycle bs) (finish (v.column + length bs) v bs)
  unfolding finish store_all last_of
  data_goes Q [] s v h hc k q = (holds Q s v h q, (h.0, h.1 ∙ ap (λ (c : ℕ). on_column c v) (sym (add-zero v.column))))
  data_goes Q (b ∷ bs) s v h hc k q =
      let l = data_law s b h.0 (rw h.1 (omega arith)) in
      let g = data_goes Q bs (step s (data_cycle b)) (wrote W b v) (l.1, l.2 ∙ ap (wrote W b) h.1) (omega arith) k.1 (k.0 v.memory q) in
      ((holds Q s v h q, l.0, g.0), (g.1.0, g.1.1 ∙ ap (λ (c : ℕ). finish c v (b ∷ bs)) (omega arith)))

  store_all_safe : (Q : List ℕ → Type 0) (m : List ℕ) (p c : ℕ) (bs : List ℕ) → Safe Q p c bs → Q m → Q (store_all W m p c bs)
  unfolding store_all
  store_all_safe Q m p c [] k q = q
  store_all_safe Q m p c (b ∷ bs) k q = store_all_safe Q (stored W m p c b) p (suc c) bs k.1 (k.0 m q)

  -- ---- a list of stretches

  abbrev pub SafeAll : (List ℕ → Type 0) → List Stretch → Type 0
  SafeAll Q [] = Unit {0}
  SafeAll Q (x ∷ xs) = Safe Q x.page x.start x.content × SafeAll Q xs

  pub emit_goes : (ahead : Option Place → Stretch → List BusCycle) → Lands ahead → (Q : List ℕ → Type 0) (before : Option Place) (xs : List Stretch)
      (s : State) (v : View Rest) → At s v → Agrees before v → OfKind W xs → SafeAll Q xs → Q v.memory
      → Goes (Holds Q v.rest) s (emit_by ahead before xs) (drawn_all W v xs)
  unfolding emit_by drawn_all drawn finish
  emit_goes ahead lands Q before [] s v h a ok k q = (holds Q s v h q, h)
  emit_goes ahead lands Q before (x ∷ xs) s v h a ok k q =
      let g = lands before x s v h a ok.0 (omega (arith, ok.1, ok.2)) in
      let more = emit_by ahead (some (end_of x)) xs in
      let s1 = run_by step s (ahead before x) in
      goes_append (Holds Q v.rest) s (ahead before x) (map data_cycle x.content ++ more) (placed x v) (drawn_all W (drawn W v x) xs)
      (along_map (Holds (λ m. m ≡ v.memory) v.rest) (Holds Q v.rest) (λ t p. (p.0, rw p.1 q, p.2)) s (ahead before x) g.0, g.1)
      (λ h1. goes_append (Holds Q v.rest) s1 (map data_cycle x.content) more (drawn W v x) (drawn_all W (drawn W v x) xs)
      (data_goes Q x.content s1 (placed x v) h1 ok.2 k.0 q)
      (λ h2. emit_goes ahead lands Q (some (end_of x)) xs (run_by step s1 (map data_cycle x.content)) (drawn W v x) h2 (refl, refl) ok.3 k.1
      (store_all_safe Q v.memory x.page x.start x.content k.0 q)))

  pub drawn_all_memory : (xs : List Stretch) (v : View Rest) → (drawn_all W v xs).memory ≡ paint W v.memory xs
  unfolding drawn_all drawn paint
  drawn_all_memory [] v = refl
  drawn_all_memory (x ∷ xs) v = drawn_all_memory xs (drawn W v x)

  pub drawn_all_rest : (xs : List Stretch) (v : View Rest) → (drawn_all W v xs).rest ≡ v.rest
  unfolding drawn_all drawn
  drawn_all_rest [] v = refl
  drawn_all_rest (x ∷ xs) v = drawn_all_rest xs (drawn W v x)

  -- ---- any list of the kind, from any ready chip

  -- every data byte keeps the memory's length
  abbrev pub Sized : ℕ → List ℕ → Type 0
  Sized k m = length m ≡ k

  sized_data : (k p c : ℕ) (bs : List ℕ) → Safe (Sized k) p c bs
  sized_data k p c [] = tt
  sized_data k p c (b ∷ bs) = (λ m q. stored_length W m p c b ∙ q, sized_data k p (suc c) bs)

  sized_all : (k : ℕ) (xs : List Stretch) → SafeAll (Sized k) xs
  sized_all k [] = tt
  sized_all k (x ∷ xs) = (sized_data k x.page x.start x.content, sized_all k xs)

  pub kind_goes : (k : ℕ) (xs : List Stretch) (s : State) → Ready s → length (view s).memory ≡ k → OfKind W xs
      → Goes (Holds (Sized k) (view s).rest) s (emit none xs) (drawn_all W (view s) xs)
  kind_goes k xs s h e ok = emit_goes address address_lands (Sized k) none xs s (view s) (h, refl) tt ok (sized_all k xs) e

  pub kind_memory : (xs : List Stretch) (s : State) → Ready s → OfKind W xs → (view (run_by step s (emit none xs))).memory ≡ paint W (view s).memory xs
  kind_memory xs s h ok = ap (λ v. v.memory) (kind_goes (length (view s).memory) xs s h refl ok).1.1 ∙ drawn_all_memory xs (view s)

  -- ---- one list of cycles after the other

  pub run_append : (s : State) (xs ys : List BusCycle) → run_by step s (xs ++ ys) ≡ run_by step (run_by step s xs) ys
  run_append s [] ys = refl
  run_append s (x ∷ xs) ys = run_append (step s x) xs ys

  numbers_append : (s : State) (xs ys : List BusCycle)
      → numbers_by step number s (xs ++ ys) ≡ numbers_by step number s xs ++ numbers_by step number (run_by step s xs) ys
  numbers_append s [] ys = refl
  numbers_append s (x ∷ xs) ys = ap (λ (l : List ℕ). number s x ∷ l) (numbers_append (step s x) xs ys)

  pub accepted_append : (s : State) (xs ys : List BusCycle) → numbers_by step number s xs ≡ replicate (length xs) 0
      → numbers_by step number (run_by step s xs) ys ≡ replicate (length ys) 0 → numbers_by step number s (xs ++ ys) ≡ replicate (length (xs ++ ys)) 0
  accepted_append s xs ys a b = rw (numbers_append s xs ys, length-append xs ys, a, b) (replicate-append-replicate (length xs) (length ys) 0)

  pub leaves_then : (s : State) (xs ys : List BusCycle) (picture : List ℕ) → numbers_by step number s xs ≡ replicate (length xs) 0
      → Leaves C (run_by step s xs) ys picture → Leaves C s (xs ++ ys) picture
  leaves_then s xs ys picture a b = record { accepted = accepted_append s xs ys a b.accepted; recorded = rw (run_append s xs ys) b.recorded }
