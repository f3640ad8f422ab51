use Rattle.rules.specs.Table.{row_from}
use Rattle.table.proofs.row_from.Goals as goal

pub returns : goal.returns
unfolding row_from
returns c = cc
