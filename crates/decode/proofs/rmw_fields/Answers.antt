use Rattle.decode.proofs.RowLaws.{fields_told}
use Rattle.decode.specs.Ops.{row_meant}
use Rattle.decode.proofs.rmw_fields.Goals as goal

pub returns : goal.returns
returns c =
    let args = c.args in
    fields_told args.cells (row_meant args.row) c.named.ensures c.is_failure_order.ensures c.is_register.ensures
