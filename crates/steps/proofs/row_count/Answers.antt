use Rattle.steps.proofs.RowLaws.{count_at, count_past, count_none}
use Rattle.steps.proofs.row_count.Goals as goal

pub returns-then-t-table : goal.returns-then-t-table
returns-then-t-table c = count_at _ c.wide8-t.ensures.same c.if-t-lt-MAX_THREADS.true

pub returns-else-t-table : goal.returns-else-t-table
returns-else-t-table c = count_past _ c.wide8-t.ensures.same c.if-t-lt-MAX_THREADS.true c.if-t-table.false

pub returns-else-t-lt-MAX_THREADS : goal.returns-else-t-lt-MAX_THREADS
returns-else-t-lt-MAX_THREADS c = count_none _ c.wide8-t.ensures.same c.if-t-lt-MAX_THREADS.false
