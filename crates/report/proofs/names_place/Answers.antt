use mathlib.Core.Path.{ap}
use lib.Dec.{leb}
use Rattle.report.proofs.names_place.Goals as goal

pub returns : goal.returns
returns c = ap (leb 11) c.fault_number.ensures
