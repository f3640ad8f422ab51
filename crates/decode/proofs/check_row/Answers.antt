use Rattle.decode.specs.Ops.{row_meant}
use Rattle.decode.proofs.RowLaws.{then-op, check-made}
use Rattle.decode.proofs.check_row.Goals as goal

pub returns : goal.returns
returns c =
    let g = c.args in
    check-made (row_meant g.row) (then-op _ _ c.then_some.ensures) c.is_register.ensures c.no_change.ensures c.wide8.ensures.same
