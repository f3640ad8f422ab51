use Rattle.decode.specs.Ops.{row_meant}
use Rattle.decode.proofs.RowLaws.{then-op, jump-made}
use Rattle.decode.proofs.jump_row.Goals as goal

pub returns : goal.returns
returns c =
    let g = c.args in
    jump-made g.count g.own (row_meant g.row) (then-op _ _ c.then_some.ensures) c.reached.ensures c.leads_on.ensures c.no_change.ensures c.no_operands.ensures
