-- `jobs::text::Text::file` meets its contract: a good file, and a refused one.
-- Assumes nothing.
use native.Mathlib.Omega.{arith}
use Rattle.jobs.proofs.Scan.{header_holds}
use Rattle.jobs.proofs.Texts.{puts_most}
use Rattle.jobs.proofs.Playing.{text_good, text_bad}
use Rattle.jobs.proofs.text.Text.file.Goals as goal

pub invariant_of-play : goal.invariant_of-play
invariant_of-play c =
    record { whole = header_holds _ c.read_header.ensures c.in-Ok.is }

pub returns-in-Ok : goal.returns-in-Ok
returns-in-Ok c =
    text_good _ c.read_header.ensures c.in-Ok.is c.play.ensures

pub returns-in-Err : goal.returns-in-Err
returns-in-Err c =
    text_bad _ c.read_header.ensures c.in-Err.is (puts_most (omega arith) (rw c.into.ensures at c.bad.ensures))
