use mathlib.Core.Path.{ap, refl, ◌∙◌}
use Rattle.rules.specs.Table.{Row, row_decoded}
use Rattle.decode.proofs.RowLaws.{fine}
use Rattle.decode.specs.Ops.{room_meant}
use Rattle.table.proofs.Places.{op-nowhere, op-there}
use Rattle.table.proofs.is_fine.Goals as goal

pub returns-in_default : goal.returns-in_default
returns-in_default c = fine refl (op-nowhere _ _ _ c.place_of.ensures c.in_default.is)

pub row_from-requires : goal.row_from-requires
row_from-requires c = (op-there _ _ _ c.place_of.ensures c.in-Some.is).0

pub returns : goal.returns
returns c =
    let g = c.args in
    fine c.is_row.ensures
    (ap (λ (r : Row). row_decoded (room_meant g.room) r) c.row_from.ensures
    ∙ (op-there _ _ _ c.place_of.ensures c.in-Some.is).1)
