-- The new set's bytes: each one read and written again is itself with its free bits 0, each instruction written is read back where its
-- byte is awaited, and the assigned ones are thirteen.
-- Assumes nothing.
use Prim.Native.Nat.{ℕ, ◌%◌, ◌<◌}
use mathlib.Core.Path.{◌≡◌, ◌∙◌, refl, ap}
use mathlib.Core.Bool.{Bool, cond}
use native.Mathlib.Omega.{arith}
use Rattle.paper.specs.Refusal.{unassigned}
use Rattle.paper.specs.Told.{given, refused}
use Rattle.paper.proofs.Every.{at}
use Rattle.instructions.specs.Added.{added_first, read_added, assigned_added, plain_added, write_added, awaited_for_added, added_again}
use Rattle.instructions.specs.declared.instruction.Awaited.TheVariants as awaited
use Rattle.instructions.specs.declared.added.Added.{Added}
use Rattle.instructions.specs.declared.added.Added.TheVariants.{Com0Next, Com0Value, DutyNext, DutyValue, InversionNext, InversionValue, FrameInversion}
use Rattle.instructions.proofs.Fields.{field_given, field_is}
use Rattle.instructions.proofs.ReadBack.{by_byte}
use Rattle.instructions.proofs.Pinned.{same_byte, same, is_same, how_many}

-- ---- read and written again

-- one of the 256 bytes, as a test
unfoldable pub again_plain : ℕ → Bool
again_plain b = same (added_again (added_first b)) (cond (assigned_added b) (given (plain_added b)) (refused unassigned))

-- where nothing is awaited an assigned byte is itself with its free bits 0, and every other one is refused with 4
pub added_first_again : (b : ℕ) → b < 256 → added_again (read_added awaited.Nothing b) ≡ cond (assigned_added b) (given (plain_added b)) (refused unassigned)
unfolding again_plain same same_byte added_first assigned_added plain_added
added_first_again b h = is_same _ _ (at again_plain 256 tt b h)

-- a second byte, whatever its value: its free bits are those above its field
pub com0_again : (b : ℕ) → added_again (read_added awaited.Com0 b) ≡ given (b % 128)
com0_again b = field_given 0x00 128 (b % 128) (omega arith) ∙ ap given (omega arith)

pub duty_again : (b : ℕ) → added_again (read_added awaited.Duty b) ≡ given (b % 128)
duty_again b = field_given 0x00 128 (b % 128) (omega arith) ∙ ap given (omega arith)

pub inversion_again : (b : ℕ) → added_again (read_added awaited.Inversion b) ≡ given (b % 32)
inversion_again b = field_given 0x00 32 (b % 32) (omega arith) ∙ ap given (omega arith)

-- ---- these are 13 bytes

pub assigned_13 : how_many assigned_added 256 ≡ 13
unfolding assigned_added
assigned_13 = refl

-- ---- written and read

pub added_read_back : (i : Added) (b : ℕ) → write_added i ≡ given b → read_added (awaited_for_added i) b ≡ given i
unfolding added_first
added_read_back Com0Next b e = by_byte added_first Com0Next 0x44 b e refl
added_read_back (Com0Value v) b e = let f = field_is 0x00 128 v b e in ap (λ (y : ℕ). given (Com0Value y)) (omega arith)
added_read_back DutyNext b e = by_byte added_first DutyNext 0x48 b e refl
added_read_back (DutyValue v) b e = let f = field_is 0x00 128 v b e in ap (λ (y : ℕ). given (DutyValue y)) (omega arith)
added_read_back InversionNext b e = by_byte added_first InversionNext 0x4c b e refl
added_read_back (InversionValue v) b e = let f = field_is 0x00 32 v b e in ap (λ (y : ℕ). given (InversionValue y)) (omega arith)
added_read_back FrameInversion b e = by_byte added_first FrameInversion 0xe4 b e refl
