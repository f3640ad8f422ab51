use Rattle.start.proofs.StartLaws.{cell_as}
use Rattle.start.proofs.make_cell.Goals as goal

pub returns : goal.returns
returns c =
    let args = c.args in
    cell_as args.table.now args.clocks.now _ args.marks.now args.values.now args.numbers.now args.cell _ _ c.join_into.ensures c.start_value-value.ensures c.store.ensures
