-- The memory at power-up.
-- Assumes nothing.
use Rattle.std.specs.Prelude.{ℕ, cond, List, ◌++◌, take, replicate, ltb}
use Rattle.jobs.specs.Header.{picture1}
use Rattle.jobs.specs.declared.header.Job.{Job}

-- picture 1 is the memory at power-up, zeros if absent
unfoldable pub start_memory : List ℕ → Job → List ℕ
start_memory file j = cond (ltb j.pictures 1) (replicate 1188 0) (picture1 file j.cycles)

-- the first n bytes of m, 0 where it has none
unfoldable pub filled_up : ℕ → List ℕ → List ℕ
filled_up n m = take n (m ++ replicate n 0)
