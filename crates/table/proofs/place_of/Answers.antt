use Rattle.table.proofs.Places.{place-held, place_short, place-past, place-filled, place-crowded, place_none}
use Rattle.table.proofs.place_of.Goals as goal

pub returns-then-at-table : goal.returns-then-at-table
returns-then-at-table c = place-held _ _ _ c.if-threads-le-MAX_THREADS.true c.if-cells-le-MAX_CELLS.true c.if-plains-le-MAX_PLAINS.true c.if-index-lt-ALL_ROWS.true c.if-at-table.true

pub returns-else-at-table : goal.returns-else-at-table
returns-else-at-table c =
    place_short _ _ _ c.if-threads-le-MAX_THREADS.true c.if-cells-le-MAX_CELLS.true c.if-plains-le-MAX_PLAINS.true c.if-index-lt-ALL_ROWS.true c.if-at-table.false

pub returns-else-index-lt-ALL_ROWS : goal.returns-else-index-lt-ALL_ROWS
returns-else-index-lt-ALL_ROWS c = place-past _ _ _ c.if-threads-le-MAX_THREADS.true c.if-cells-le-MAX_CELLS.true c.if-plains-le-MAX_PLAINS.true c.if-index-lt-ALL_ROWS.false

pub returns-else-plains-le-MAX_PLAINS : goal.returns-else-plains-le-MAX_PLAINS
returns-else-plains-le-MAX_PLAINS c = place-filled _ _ _ c.if-threads-le-MAX_THREADS.true c.if-cells-le-MAX_CELLS.true c.if-plains-le-MAX_PLAINS.false

pub returns-else-cells-le-MAX_CELLS : goal.returns-else-cells-le-MAX_CELLS
returns-else-cells-le-MAX_CELLS c = place-crowded _ _ _ c.if-threads-le-MAX_THREADS.true c.if-cells-le-MAX_CELLS.false

pub returns-else-threads-le-MAX_THREADS : goal.returns-else-threads-le-MAX_THREADS
returns-else-threads-le-MAX_THREADS c = place_none _ _ _ c.if-threads-le-MAX_THREADS.false
