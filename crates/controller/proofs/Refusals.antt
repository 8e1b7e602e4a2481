-- What the promise of a cycle says of a refusal: its number is not 0, and the memory is left as it was. The number is one of an
-- answer that gives neither byte nor registers, and a cycle with such a number changes nothing.
-- Assumes nothing.
use Prim.Native.Nat.{ℕ}
use mathlib.Core.Path.{◌≡◌, ◌∙◌, ap}
use mathlib.Core.Logic.{◌≢◌}
use mathlib.Core.List.{List}
use Rattle.std.specs.Prelude.{Err}
use Rattle.paper.specs.Refusal.{number_of}
use Rattle.paper.specs.Sheet.{Sensible}
use Rattle.paper.specs.declared.refusal.Refusal.{Refusal}
use Rattle.paper.proofs.Telling.{number_some}
use Rattle.paper.specs.declared.sheet.Sheet.{Sheet}
use Rattle.registers.specs.declared.Registers.{Registers}
use Rattle.controller.specs.Cycle.{Cycled}
use Rattle.controller.specs.State.{state, number}
use Rattle.controller.proofs.Readers.{refused_nothing}

-- a refusal alters nothing, and no refusal is 0
pub cycled_refused_leaves : (k : Sheet) → Sensible k → {r : Registers} {m : List ℕ} {kind value : ℕ} {e : Refusal} {left : List ℕ}
    → Cycled k r m kind value (Err e) left → (number_of e ≢ 0) × (left ≡ m)
cycled_refused_leaves k g {r} {m} {kind} {value} {e} f =
    let q : number_of e ≡ number k (state r m) (kind, value) = ap (λ o. o.number) f.tells in (
      number_some e,
      f.leaves ∙ ap (λ s. s.memory) (refused_nothing k (state r m) (kind, value) (λ z. number_some e (q ∙ z))),
    )
