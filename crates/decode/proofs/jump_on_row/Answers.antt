use Rattle.decode.specs.Ops.{op_of, row_meant}
use Rattle.decode.proofs.RowLaws.{then-op, jump-on-made}
use Rattle.decode.proofs.jump_on_row.Goals as goal

pub returns : goal.returns
returns c =
    let g = c.args in
    jump-on-made g.count (row_meant g.row) (op_of g.op) (then-op _ _ c.then_some.ensures) c.is_register.ensures c.reached.ensures c.no_change.ensures
