use Rattle.table.proofs.Header.{shape-short, shape-made}
use Rattle.table.proofs.shape.Goals as goal

pub returns-then-table-lt-HEADER_BYTES : goal.returns-then-table-lt-HEADER_BYTES
returns-then-table-lt-HEADER_BYTES c = shape-short _ c.if-table-lt-HEADER_BYTES.true

pub returns : goal.returns
returns c =
    shape-made _ c.if-table-lt-HEADER_BYTES.false
    c.short8-threads.ensures.same
    c.short8-cells.ensures.same
    c.short8-n0.ensures.same
    c.short8-n1.ensures.same
    c.short8-n2.ensures.same
    c.short8-n3.ensures.same
    c.short8-n4.ensures.same
    c.short8-plains.ensures.same
