-- Which bytes stand for no registers.
-- Assumes nothing.
use Rattle.std.specs.Prelude.{ℕ, zero, suc, ◌+◌, ◌≡◌, Bool, true, false, cond, ◌&&◌, ◌||◌, List, get_or, ltb, eqb, Result, MatchResult}
use Rattle.paper.specs.Refusal.{wrong_size, out_of_range, number_of}
use Rattle.paper.specs.declared.refusal.Refusal.{Refusal}
use Rattle.registers.specs.declared.Registers.{Registers}
use Rattle.state.specs.Packed.{unpacked}

-- one of the n bytes from i on is above `most`
abbrev pub above : ℕ → List ℕ → ℕ → ℕ → Bool
above most b i zero = false
above most b i (suc n) = above most b i n || ltb most (get_or b (i + n) 0)

-- a byte that is to be 0 or 1 is neither: offsets 6 to 12, 15, 16, 19 and 20
unfoldable pub odd_flag : List ℕ → Bool
odd_flag b = above 1 b 6 7 || ltb 1 (get_or b 15 0) || ltb 1 (get_or b 16 0) || ltb 1 (get_or b 19 0) || ltb 1 (get_or b 20 0)

-- a spare byte is not 0
unfoldable pub spare_used : List ℕ → Bool
spare_used b = above 0 b 24 8

-- the bytes stand for no registers: a flag is neither 0 nor 1, a column is saved while modify-read is off, the awaited byte is none
-- of the six, or a spare byte is not 0. The other registers' ranges are the controller's `outside`; both are refused with 2
unfoldable pub unfit : List ℕ → Bool
unfit b = odd_flag b || (eqb (get_or b 16 0) 0 && ltb 0 (get_or b 17 0)) || ltb 5 (get_or b 18 0) || spare_used b

-- an unfit state is refused with 2, but with 1 where a buffer's size is wrong
abbrev pub unfit_number : Bool → ℕ
unfit_number wrong = cond wrong wrong_size out_of_range

-- the registers that the bytes stand for, or the refusal of bytes that stand for none
abbrev pub AreIn : List ℕ → Bool → Result Registers Refusal → Type 0
AreIn b wrong r = MatchResult r (λ n. (unfit b ≡ false) × (n ≡ unpacked b)) (λ e. (unfit b ≡ true) × (number_of e ≡ unfit_number wrong))
