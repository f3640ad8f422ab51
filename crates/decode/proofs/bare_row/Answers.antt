use Rattle.decode.specs.Ops.{op_of, row_meant}
use Rattle.decode.proofs.RowLaws.{then-op, bare-made}
use Rattle.decode.proofs.bare_row.Goals as goal

pub returns : goal.returns
returns c =
    let g = c.args in
    bare-made (row_meant g.row) (op_of g.op) (then-op _ _ c.then_some.ensures) c.no_change.ensures c.no_operands.ensures
