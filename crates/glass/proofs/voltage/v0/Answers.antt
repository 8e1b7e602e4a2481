-- `glass::voltage::v0` meets its contract: where nothing is refused the resistor is inside the table, and the numerator fits.
-- Assumes nothing.
use Rattle.glass.proofs.Ratios.{inside, fits_twice}
use Rattle.glass.proofs.voltage.v0.Goals as goal

pub overflow_mul-result-2 : goal.overflow_mul-result-2
overflow_mul-result-2 g c =
    record { fits = rw (c.table.ensures, c.BASE.ensures, c.FACTOR.ensures) (fits_twice g.met.C.Supply.small (inside c.args.resistor c.args.contrast c.if-resistor-contrast.false)) }
