-- A run from power-up on a memory of 1,188 bytes, with room for every answer, is never refused.
-- Assumes nothing.
use Prim.Native.Nat.{ℕ, ◌≤◌}
use mathlib.Core.Path.{◌≡◌, ap, subst, ◌∙◌}
use mathlib.Core.Logic.{⊎_elim}
use mathlib.Core.List.{List}
use native.Mathlib.Omega.{arith}
use lib.ListN.{length}
use Rattle.std.specs.Prelude.{Result, Ok}
use Rattle.paper.specs.declared.refusal.Refusal.{Refusal}
use Rattle.paper.specs.Sheet.{sheet0713, sensible0713}
use Rattle.instructions.specs.declared.added.CommandSet.{CommandSet}
use Rattle.registers.specs.Registers.{PoweredUpIn}
use Rattle.registers.specs.declared.Registers.{Registers}
use Rattle.registers.proofs.InRange.{powered_in_inside}
use Rattle.controller.specs.State.{state, run}
use Rattle.bus.specs.Cycles.{cycles_of}
use Rattle.bus.specs.Run.{Outputs, ran_from, IsRun}
use Rattle.bus.proofs.Playing.{cycles_count}
use Rattle.bus.proofs.Promised.{ShortOutputs, run_is, run_always, stay_inside}
use Rattle.viewer.specs.Played.{FromPowerUp}

module _ {set : CommandSet} {r : Registers} {m cycles left : List ℕ} {o x : Outputs} {a : Result Registers Refusal}
    (up : PoweredUpIn sheet0713 set r) (f : IsRun sheet0713 r m cycles o a left x) where
  pub run_given : {q : Registers} → a ≡ Ok q → FromPowerUp set cycles m q left
  run_given {q} e =
      let g = subst (λ (b : Result Registers Refusal). IsRun sheet0713 r m cycles o b left x) e f in
      record {
        after = run_is g ∙ ap (λ (y : Registers). run sheet0713 (state y m) (cycles_of cycles)) up.tells;
        inside = stay_inside sheet0713 sensible0713 (powered_in_inside sheet0713 sensible0713 set r up) g;
      }

  room_for_all : length cycles ≤ 32000 → 16000 ≡ length o.numbers → 16000 ≡ length o.reads → 16000 ≡ length o.bytes → 16000 ≡ length o.fresh
      → ShortOutputs (length (cycles_of cycles)) o → ⊥
  room_for_all h n d b f s = let e = cycles_count cycles in ⊎_elim (⊎_elim (⊎_elim (λ l. omega arith) (λ l. omega arith)) (λ l. omega arith)) (λ l. omega arith) s

  pub run_always_given : length m ≡ 1188 → length cycles ≤ 32000 → 16000 ≡ length o.numbers → 16000 ≡ length o.reads → 16000 ≡ length o.bytes
      → 16000 ≡ length o.fresh → a ≡ Ok (ran_from sheet0713 r m cycles).registers
  run_always_given fit h nr dr br fr = run_always f fit (powered_in_inside sheet0713 sensible0713 set r up) (room_for_all h nr dr br fr)
