-- A job file: its header, its cycles and its pictures, and what is refused.
-- Assumes nothing.
use Rattle.std.specs.Prelude.{ℕ, zero, suc, ◌+◌, ◌*◌, ◌%◌, ◌≡◌, Bool, false, cond, not, ◌||◌, ◌&&◌, List, length, get_or, take, drop, ltb, eqb, Result}
use Rattle.paper.specs.Refusal.{short_job, wrong_header, wrong_cycle}
use Rattle.paper.specs.Told.{Told, given, refused, told}
use Rattle.paper.specs.declared.refusal.Refusal.{Refusal}
use Rattle.instructions.specs.declared.added.CommandSet.{CommandSet}
use Rattle.instructions.specs.declared.added.CommandSet.TheVariants.{Old, New}
use Rattle.controller.specs.Cycle.{malformed}
use Rattle.controller.specs.Run.{BusCycle}
use Rattle.jobs.specs.declared.header.Job.{Job}

-- a 16-bit number, low byte first
unfoldable pub word_at : List ℕ → ℕ → ℕ
word_at file at = get_or file at 0 + 256 * get_or file (at + 1) 0

-- cycle i is two bytes, kind and value
abbrev pub cycle_at : List ℕ → ℕ → BusCycle
cycle_at file i = (get_or file (8 + 2 * i) 0, get_or file (9 + 2 * i) 0)

-- pictures follow the n cycles: the memory at power-up, and a wanted picture
abbrev pub picture1 : List ℕ → ℕ → List ℕ
picture1 file n = take 1188 (drop (8 + 2 * n) file)

abbrev pub picture2 : List ℕ → ℕ → List ℕ
picture2 file n = take 1188 (drop (8 + 2 * n + 1188) file)

-- the picture count field p: 0 to 2 pictures in the old command set, and in the new one 256 for none and 257 for one
abbrev pub pictures_in : ℕ → ℕ
pictures_in p = p % 256

abbrev pub set_in : ℕ → CommandSet
set_in p = cond (ltb p 256) Old New

unfoldable pub wrong_count : ℕ → Bool
wrong_count p = ltb 2 p && not (eqb p 256) && not (eqb p 257)

-- N ≤ 16,000, the picture count field, offsets 8 and 8 + 2N, total 8 + 2N + 1,188·P with P pictures: one of them is wrong
unfoldable pub wrong_sizes : ℕ → ℕ → ℕ → ℕ → ℕ → Bool
wrong_sizes n cycles p pictures total =
    ltb 16000 n || not (eqb cycles 8) || wrong_count p || not (eqb pictures (8 + 2 * n)) || not (eqb total (8 + 2 * n + 1188 * pictures_in p))

-- one of the n cycles from i on is no cycle
unfoldable pub wrong_cycles : List ℕ → ℕ → ℕ → Bool
wrong_cycles file i zero = false
wrong_cycles file i (suc n) = malformed (cycle_at file i).0 (cycle_at file i).1 || wrong_cycles file (suc i) n

-- the job of a file's header
abbrev pub job_of : List ℕ → Job
job_of file = record { cycles = word_at file 0; pictures = pictures_in (word_at file 4); set = set_in (word_at file 4) }

-- a file is refused with 7, 8, 9 in this order, or is the job of its header
unfoldable pub header_of : List ℕ → Told Job
header_of file =
    cond (ltb (length file) 8) (refused short_job)
    (cond (wrong_sizes (word_at file 0) (word_at file 2) (word_at file 4) (word_at file 6) (length file)) (refused wrong_header)
    (cond (wrong_cycles file 0 (word_at file 0)) (refused wrong_cycle)
    (given (job_of file))))

-- what read_header promises
pub record IsHeader (file : List ℕ) (a : Result Job Refusal) : Type 0 where
  pub tells : told a ≡ header_of file
