-- `state::packed::pack` meets its contract: each register at its offset.
-- Assumes nothing.
use Rattle.state.proofs.Packing.{packed_from}
use Rattle.state.proofs.packed.pack.Goals as goal

pub returns : goal.returns
returns c =
    packed_from _
    c.flag_byte.ensures
    c.flag_byte-2.ensures
    c.flag_byte-3.ensures
    c.flag_byte-4.ensures
    c.flag_byte-5.ensures
    c.flag_byte-6.ensures
    c.flag_byte-7.ensures
    c.flag_byte-8.ensures
    c.modify_byte.ensures
    c.saved_byte.ensures
    c.from.ensures
    c.flag_byte-9.ensures
    c.from-2.ensures
