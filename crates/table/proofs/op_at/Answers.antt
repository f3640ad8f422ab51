use mathlib.Core.Path.{ap, ◌∙◌}
use Rattle.rules.specs.Table.{Row, row_decoded}
use Rattle.decode.specs.Ops.{room_meant, decoded_of}
use Rattle.table.proofs.Places.{op-nowhere, op-there}
use Rattle.table.proofs.Within.{op-made}
use Rattle.table.proofs.op_at.Goals as goal

pub returns-in_err-at : goal.returns-in_err-at
returns-in_err-at c = op-made _ _ _ _ (ap decoded_of c.from_residual.ensures ∙ op-nowhere _ _ _ c.place_of.ensures c.in_err-at.was)

pub row_from-requires : goal.row_from-requires
row_from-requires c = (op-there _ _ _ c.place_of.ensures c.in_ok-at.was).0

pub returns : goal.returns
returns c =
    let g = c.args in
    op-made _ _ _ _
    (c.row_decoded.ensures ∙ ap (λ (r : Row). row_decoded (room_meant g.room) r) c.row_from.ensures
    ∙ (op-there _ _ _ c.place_of.ensures c.in_ok-at.was).1)
