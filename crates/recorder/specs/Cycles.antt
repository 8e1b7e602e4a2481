-- A list of cycles: whether one of them is none, and its bytes.
-- Assumes nothing.
use Rattle.std.specs.Prelude.{ℕ, Bool, false, not, ◌||◌, ◌&&◌, List, [], ◌∷◌, ltb}
use Rattle.controller.specs.Cycle.{malformed}
use Rattle.controller.specs.Run.{BusCycle}

-- a cycle that number 9 would not refuse, and whose value is a byte
unfoldable pub good_cycle : BusCycle → Bool
good_cycle x = not (malformed x.0 x.1) && ltb x.1 256

-- a cycle that number 9 would refuse is among them
unfoldable pub any_wrong : List BusCycle → Bool
any_wrong [] = false
any_wrong (x ∷ xs) = malformed x.0 x.1 || any_wrong xs

-- two bytes a cycle, kind and value
unfoldable pub bytes_of : List BusCycle → List ℕ
bytes_of [] = []
bytes_of (x ∷ xs) = x.0 ∷ x.1 ∷ bytes_of xs
