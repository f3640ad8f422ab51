use Rattle.decode.specs.Ops.{row_meant}
use Rattle.decode.proofs.RowLaws.{then-op, spurious-made}
use Rattle.decode.proofs.spurious_row.Goals as goal

pub returns : goal.returns
returns c =
    let g = c.args in
    spurious-made (row_meant g.row) (then-op _ _ c.then_some.ensures) c.is_register.ensures c.no_change.ensures c.no_operands.ensures c.wide8.ensures.same
