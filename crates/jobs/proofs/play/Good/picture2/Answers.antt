-- `jobs::play::Good::picture2` meets its contract: the part of the file behind picture 1, as long as a picture.
-- Assumes nothing.
use Prim.Native.Nat.{◌+◌, ◌*◌, ◌-◌}
use mathlib.Core.Path.{◌≡◌, refl}
use native.Mathlib.Omega.{arith}
use Rattle.jobs.proofs.play.Good.picture2.Goals as goal

pub returns : goal.returns
returns c =
    let n = c.args.self.now.job.cycles in
    let e : 8 + 2 * n + 1188 + 1188 - (8 + 2 * n + 1188) ≡ 1188 = omega arith in
    rw e refl
