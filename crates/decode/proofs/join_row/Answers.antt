use Rattle.decode.specs.Ops.{row_meant}
use Rattle.decode.proofs.RowLaws.{then-op, join-made}
use Rattle.decode.proofs.join_row.Goals as goal

pub returns : goal.returns
returns c =
    let g = c.args in
    join-made g.threads (row_meant g.row) (then-op _ _ c.then_some.ensures) c.named.ensures c.no_change.ensures c.no_operands.ensures c.wide8.ensures.same
