use Rattle.decode.proofs.RowLaws.{rmw-judged}
use Rattle.decode.specs.Ops.{row_meant}
use Rattle.decode.proofs.is_rmw.Goals as goal

pub returns : goal.returns
returns c =
    rmw-judged c.args.cells (row_meant c.args.row) c.change_of.result c.is_some.ensures c.change_of.ensures c.rmw_fields.ensures
