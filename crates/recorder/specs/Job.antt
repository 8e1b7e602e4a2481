-- A job file, written: the header, the cycles, the pictures. And what the reader of job files takes from one.
-- Assumes nothing.
use Rattle.std.specs.Prelude.{ℕ, zero, suc, ◌+◌, ◌*◌, ◌/◌, ◌%◌, Bool, cond, not, List, [], ◌∷◌, ◌++◌, length, drop, ltb, eqb, Result}
use Rattle.paper.specs.Refusal.{wrong_size, short_output, outside_field}
use Rattle.paper.specs.declared.refusal.Refusal.{Refusal}
use Rattle.instructions.specs.Added.{is_new}
use Rattle.instructions.specs.declared.added.CommandSet.{CommandSet}
use Rattle.controller.specs.Run.{BusCycle}
use Rattle.bus.specs.Cycles.{cycles_of}
use Rattle.jobs.specs.Header.{cycle_at}
use Rattle.jobs.specs.declared.header.Job.{Job}
use Rattle.recorder.specs.Cycles.{any_wrong, bytes_of}
use Rattle.recorder.specs.Written.{Written}

-- a 16-bit number, low byte first
unfoldable pub word_bytes : ℕ → List ℕ
word_bytes n = n % 256 ∷ n / 256 % 256 ∷ []

-- the most pictures that a job of a command set can have, and its picture count field
abbrev pub most_pictures : CommandSet → ℕ
most_pictures set = cond (is_new set) 1 2

abbrev pub count_field : CommandSet → ℕ → ℕ
count_field set count = cond (is_new set) (256 + count) count

-- cycle count N, cycle offset, picture count field, picture offset
unfoldable pub header_bytes : ℕ → ℕ → List ℕ
header_bytes n field = word_bytes n ++ (word_bytes 8 ++ (word_bytes field ++ word_bytes (8 + 2 * n)))

-- the header, then the cycles, then the pictures as they are
unfoldable pub job_bytes : CommandSet → List BusCycle → ℕ → List ℕ → List ℕ
job_bytes set xs count pictures = header_bytes (length xs) (count_field set count) ++ (bytes_of xs ++ pictures)

-- so many bytes are not `count` pictures of 1,188
unfoldable pub wrong_pictures : ℕ → ℕ → Bool
wrong_pictures total count = not (eqb total (1188 * count))

-- a job is refused with 1, then 6, then 5
unfoldable pub job_refusal : CommandSet → List BusCycle → ℕ → List ℕ → List ℕ → ℕ
job_refusal set xs count pictures out =
    cond (wrong_pictures (length pictures) count) wrong_size
    (cond (ltb 16000 (length xs)) outside_field
    (cond (ltb (most_pictures set) count) outside_field
    (cond (any_wrong xs) outside_field
    (cond (ltb (length out) (length (job_bytes set xs count pictures))) short_output 0))))

-- what write_job promises
abbrev pub IsWrittenJob : CommandSet → List ℕ → ℕ → List ℕ → List ℕ → Result ℕ Refusal → List ℕ → Type 0
IsWrittenJob set cycles count pictures out a left =
    Written (job_refusal set (cycles_of cycles) count pictures out) (job_bytes set (cycles_of cycles) count pictures) out a left

-- ---- a job's cycles and pictures, as the player reads them from its file

-- the n cycles from cycle i on
unfoldable pub cycles_from : List ℕ → ℕ → ℕ → List BusCycle
cycles_from file i zero = []
cycles_from file i (suc n) = cycle_at file i ∷ cycles_from file (suc i) n

abbrev pub file_cycles : List ℕ → Job → List BusCycle
file_cycles file j = cycles_from file 0 j.cycles

abbrev pub file_pictures : List ℕ → Job → List ℕ
file_pictures file j = drop (8 + 2 * j.cycles) file
