-- A file longer than any good one is refused with 8, also where it is cut after more bytes than that: a program that reads so many
-- bytes at most gives the text of the whole file.
-- Assumes nothing.
use Prim.Native.Nat.{ℕ, ◌≤◌, ◌<◌}
use mathlib.Core.Path.{◌≡◌, ap}
use mathlib.Core.List.{List}
use native.Mathlib.Omega.{arith}
use lib.ListN.{length, take}
use lib.Seq.{take_all, length-take-le}
use Rattle.paper.specs.Refusal.{wrong_header}
use Rattle.paper.specs.Told.{refused}
use Rattle.paper.proofs.Cases.{less}
use Rattle.jobs.specs.Header.{header_of}
use Rattle.jobs.specs.Play.{text_by, text_of}
use Rattle.jobs.proofs.Scan.{Way, short, sizes, cycle, good, way, counted_two, sizes_right}

too_long_by : (file : List ℕ) → 34384 < length file → Way file → header_of file ≡ refused wrong_header
too_long_by file l (short h e) = absurd (omega arith)
too_long_by file l (sizes h s e) = e
too_long_by file l (cycle h s c e) = absurd (let z = sizes_right _ _ _ _ _ s in omega (arith, z.few, counted_two _ z.counted, z.whole))
too_long_by file l (good h s c e) = absurd (let z = sizes_right _ _ _ _ _ s in omega (arith, z.few, counted_two _ z.counted, z.whole))

-- 8 + 2 · 16,000 + 1,188 · 2 bytes are the most
pub too_long : (file : List ℕ) → 34384 < length file → header_of file ≡ refused wrong_header
too_long file l = too_long_by file l (way file)

-- cut after k bytes a file gives the same text
pub text_cut : (file : List ℕ) (k : ℕ) → 34384 < k → text_of (take k file) ≡ text_of file
unfolding text_of text_by
text_cut file k h = less k (length file)
    (λ l.
    let m : k ≤ length file = omega arith in
    let n : 34384 < length (take k file) = rw (length-take-le k file m) h in
    let o : 34384 < length file = omega arith in
    rw (too_long file o, too_long (take k file) n))
    (λ l. ap text_of (take_all k file l))
