-- `jobs::memory::load` meets its contract: the bytes that there are, copied over zeros.
-- Assumes nothing.
use mathlib.Core.Path.{◌≡◌, sym}
use mathlib.Core.List.{◌++◌}
use lib.ListN.{drop}
use Rattle.jobs.specs.Memory.{filled_up}
use Rattle.jobs.proofs.Loading.{load_copied, filled_long}
use Rattle.jobs.proofs.memory.load.Goals as goal

pub returns : goal.returns
returns c =
    let n = c.min-n.result in
    let e : c.copy_from_slice.new.self ++ drop n c.blank-memory.result ≡ filled_up 1188 c.args.bytes.now
    = rw (c.copy_from_slice.ensures.after, c.blank-memory.ensures.1) (load_copied 1188 n c.args.bytes.now c.min-n.ensures) in
    (rw e (sym (filled_long 1188 _)), e)
