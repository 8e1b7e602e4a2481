-- What an instruction of the new command set does to the registers, by order 13. It moves one of the three numbers or what is awaited,
-- and nothing else: no page, no column, no memory, and the mark of a data read stays.
-- Assumes nothing.
use Rattle.std.specs.Prelude.{ℕ, ◌+◌, ◌%◌, cond, ◌&&◌, leb, eqb}
use Rattle.instructions.specs.declared.added.Added.{Added}
use Rattle.instructions.specs.declared.added.Added.TheVariants.{Com0Next, Com0Value, DutyNext, DutyValue, InversionNext, InversionValue, FrameInversion}
use Rattle.instructions.specs.declared.instruction.Awaited.TheVariants as awaited
use Rattle.registers.specs.Registers.{with_awaited, with_com0, with_duty, with_inversion}
use Rattle.registers.specs.declared.Registers.{Registers}

-- initial COM0 is set for 0 to 79; another value does nothing
unfoldable pub com0_set : ℕ → ℕ → ℕ
com0_set now v = cond (leb v 79) v now

-- the duty is set for 17 to 81; another value does nothing
unfoldable pub duty_set : ℕ → ℕ → ℕ
duty_set now v = cond (leb 17 v && leb v 81) v now

-- the lines of an inversion byte: 0 for frame inversion, or its value plus 2
unfoldable pub lines_of : ℕ → ℕ
lines_of v = cond (eqb (v % 32) 0) 0 (v % 32 + 2)

-- a second byte is spent in every case
abbrev pub executed_added : Registers → Added → Registers
executed_added r Com0Next = with_awaited r awaited.Com0
executed_added r (Com0Value v) = with_awaited (with_com0 r (com0_set r.beside.com0 v)) awaited.Nothing
executed_added r DutyNext = with_awaited r awaited.Duty
executed_added r (DutyValue v) = with_awaited (with_duty r (duty_set r.beside.duty v)) awaited.Nothing
executed_added r InversionNext = with_awaited r awaited.Inversion
executed_added r (InversionValue v) = with_awaited (with_inversion r (lines_of v)) awaited.Nothing
executed_added r FrameInversion = with_inversion r 0
