use Rattle.ahead.proofs.AheadLaws.{row-counted}
use Rattle.ahead.proofs.row_here.Goals as goal

pub returns : goal.returns
returns c = row-counted _ _ _ c.from.ensures c.ends_line.ensures
