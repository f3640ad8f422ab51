use mathlib.Core.Path.{ap}
use lib.Dec.{ltb}
use Rattle.accesses.proofs.is_live.Goals as goal

pub returns : goal.returns
returns c = ap (ltb c.args.slot) c.wide16.ensures.same
