use Rattle.decode.specs.Ops.{row_meant}
use Rattle.decode.proofs.RowLaws.{then-op, unsync-load-made}
use Rattle.decode.proofs.unsync_load_row.Goals as goal

pub returns : goal.returns
returns c =
    let g = c.args in
    unsync-load-made g.cells (row_meant g.row) (then-op _ _ c.then_some.ensures) c.named.ensures c.is_register.ensures c.no_change.ensures c.no_operands.ensures c.wide8.ensures.same c.wide8-2.ensures.same
