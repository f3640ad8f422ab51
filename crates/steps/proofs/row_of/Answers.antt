use Rattle.steps.proofs.RowLaws.{row-said, row-none}
use Rattle.steps.proofs.row_of.Goals as goal

pub returns-then-t-ge-MAX_THREADS : goal.returns-then-t-ge-MAX_THREADS
returns-then-t-ge-MAX_THREADS c = row-none _ _ c.wide8-t.ensures.same c.if-t-ge-MAX_THREADS.true

pub returns : goal.returns
returns c =
    row-said _ c.wide8-t.ensures.same c.short8.ensures.same c.shape-shape.ensures c.if-t-ge-MAX_THREADS.false c.row_of.ensures
