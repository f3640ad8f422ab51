use Rattle.scheduling.proofs.ScheduleLaws.{operation-away, operation-none, operation-some}
use Rattle.scheduling.proofs.pending_operation.Goals as goal

pub returns-then-action-eq-NO_OPERATION : goal.returns-then-action-eq-NO_OPERATION
returns-then-action-eq-NO_OPERATION c =
    let args = c.args in
    λ clocks marks values. operation-none clocks marks values args.numbers.now args.thread c.if-action-eq-NO_OPERATION.true

pub returns-then-cell-ge-MAX_CELLS : goal.returns-then-cell-ge-MAX_CELLS
returns-then-cell-ge-MAX_CELLS c =
    let args = c.args in
    λ clocks marks values. operation-away clocks marks values args.numbers.now args.thread _ c.wide16-cell.ensures.same c.if-cell-ge-MAX_CELLS.true

pub returns : goal.returns
returns c =
    let args = c.args in
    λ clocks marks values. operation-some clocks marks values args.numbers.now args.thread _ c.wide16-cell.ensures.same c.if-cell-ge-MAX_CELLS.false c.if-action-eq-NO_OPERATION.false
