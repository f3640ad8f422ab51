use Rattle.table.proofs.Header.{header-short, header_made}
use Rattle.table.proofs.header_fine.Goals as goal

pub returns-then-table-lt-HEADER_BYTES : goal.returns-then-table-lt-HEADER_BYTES
returns-then-table-lt-HEADER_BYTES c = header-short _ c.if-table-lt-HEADER_BYTES.true

pub returns : goal.returns
returns c =
    header_made _ c.if-table-lt-HEADER_BYTES.false
    c.wide8-threads.ensures.same
    c.wide8-cells.ensures.same
    c.wide8-plains.ensures.same
    c.shape-s.ensures
    c.wide16.ensures.same
    c.wide16-2.ensures.same
    c.counts_fine.ensures
