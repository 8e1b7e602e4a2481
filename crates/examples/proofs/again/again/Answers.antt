-- A file with a good header holds its job whole.
use Rattle.jobs.proofs.Scan.{header_holds}
use Rattle.examples.proofs.again.again.Goals as goal

pub comes_back-requires : goal.comes_back-requires
comes_back-requires g c = header_holds _ c.read_header.ensures c.in-Ok.is
