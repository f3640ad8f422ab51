use Rattle.decode.specs.Ops.{row_meant}
use Rattle.decode.proofs.RowLaws.{then-op, plain-write-made}
use Rattle.decode.proofs.plain_write_row.Goals as goal

pub returns : goal.returns
returns c =
    let g = c.args in
    plain-write-made g.plains (row_meant g.row) (then-op _ _ c.then_some.ensures) c.named.ensures c.no_change.ensures c.wide8.ensures.same
