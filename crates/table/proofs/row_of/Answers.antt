use Rattle.table.proofs.Within.{op-moved}
use Rattle.table.proofs.row_of.Goals as goal

pub returns : goal.returns
returns c =
    op-moved
    c.wide16-threads.ensures.same
    c.wide16-cells.ensures.same
    c.wide16-plains.ensures.same
    c.wide16-rows.ensures.same
    c.wide16-own.ensures.same
    c.wide16-first.ensures.same
    c.op_at.ensures
