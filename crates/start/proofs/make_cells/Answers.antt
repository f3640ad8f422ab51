use mathlib.Core.Path.{◌∙◌}
use Rattle.rules.specs.Machine.{cell_made, cells_made}
use Rattle.layout.specs.Tables.{state}
use Rattle.start.proofs.StartLaws.{making-start, making-on, making-end, cells_stay, cells-go}
use Rattle.start.proofs.make_cells.Goals as goal

pub loop-cell-init : goal.loop-cell-init
loop-cell-init c =
    let args = c.args in
    making-start (cells_made args.table.now) (cell_made args.table.now) (cells_stay args.table.now) (cells-go args.table.now) (state args.clocks.now args.marks.now args.values.now args.numbers.now) args.cells 0

pub loop-cell-preserved : goal.loop-cell-preserved
loop-cell-preserved c =
    let args = c.args in
    let st = state c.loop-cell.clocks c.loop-cell.marks c.loop-cell.values c.loop-cell.numbers in
    making-on (cells_made args.table.now) (cell_made args.table.now) (cells_stay args.table.now) (cells-go args.table.now) st args.cells c.loop-cell.cell c.loop-cell-test.true _ c.make_cell.ensures ∙ c.loop-cell.invariant

pub returns : goal.returns
returns c =
    let args = c.args in
    let st = state c.loop-cell.clocks c.loop-cell.marks c.loop-cell.values c.loop-cell.numbers in
    making-end (cells_made args.table.now) (cell_made args.table.now) (cells_stay args.table.now) (cells-go args.table.now) st args.cells c.loop-cell.cell c.loop-cell-test.false ∙ c.loop-cell.invariant
