-- `state::packed::unpack` meets its contract: each register from its offset.
-- Assumes nothing.
use Rattle.state.proofs.Packing.{unpacked_from}
use Rattle.state.proofs.packed.unpack.Goals as goal

pub returns : goal.returns
returns c =
    unpacked_from _ c.modify_of-mode.ensures c.awaited_of-awaited.ensures c.beside_of-beside.ensures
