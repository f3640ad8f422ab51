use mathlib.Core.Path.{ap}
use lib.ListN.{set}
use Rattle.synchronize.proofs.join_into.Goals as goal

pub returns : goal.returns
returns c = let args = c.args in ap (set args.clocks.now args.at) c.join.ensures
