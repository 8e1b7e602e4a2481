-- A file with a good header holds its job whole, and the job is its header's.
use Rattle.std.proofs.Common.{ap, sym, ◌∙◌}
use Rattle.paper.specs.Told.{told}
use Rattle.jobs.proofs.Scan.{header_holds}
use Rattle.viewer.proofs.view_file.Goals as goal

pub invariant_of-view : goal.invariant_of-view
invariant_of-view g c = record {
  whole = header_holds _ c.read_header.ensures c.in-Ok.is;
  read = sym (ap told (sym c.in-Ok.is) ∙ c.read_header.ensures.tells);
}
