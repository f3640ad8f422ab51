use Rattle.decode.specs.Ops.{row_meant}
use Rattle.decode.proofs.RowLaws.{then-op, store-register-made}
use Rattle.decode.proofs.store_register_row.Goals as goal

pub returns : goal.returns
returns c =
    let g = c.args in
    store-register-made g.cells (row_meant g.row) (then-op _ _ c.then_some.ensures) c.named.ensures c.is_store_order.ensures c.is_register.ensures c.no_change.ensures c.no_operands.ensures c.wide8.ensures.same c.wide8-2.ensures.same
