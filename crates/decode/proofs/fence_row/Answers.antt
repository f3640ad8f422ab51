use Rattle.decode.specs.Ops.{row_meant}
use Rattle.decode.proofs.RowLaws.{then-op, fence-made}
use Rattle.decode.proofs.fence_row.Goals as goal

pub returns : goal.returns
returns c =
    let g = c.args in
    fence-made (row_meant g.row) (then-op _ _ c.then_some.ensures) c.is_fence_order.ensures c.no_change.ensures c.no_operands.ensures
