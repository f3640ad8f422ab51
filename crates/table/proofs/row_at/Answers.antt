use mathlib.Core.Path.{◌∙◌}
use Rattle.table.proofs.Places.{row-held, row-short, row-past, row-many}
use Rattle.table.proofs.row_at.Goals as goal

pub returns-then-at-table : goal.returns-then-at-table
returns-then-at-table c =
    c.row_from.ensures ∙ row-held _ _ _ c.if-values-le-MAX_VALUES.true c.if-index-lt-ALL_ROWS.true c.if-at-table.true

pub returns-else-at-table : goal.returns-else-at-table
returns-else-at-table c = row-short _ _ _ c.if-values-le-MAX_VALUES.true c.if-index-lt-ALL_ROWS.true c.if-at-table.false

pub returns-else-index-lt-ALL_ROWS : goal.returns-else-index-lt-ALL_ROWS
returns-else-index-lt-ALL_ROWS c = row-past _ _ _ c.if-values-le-MAX_VALUES.true c.if-index-lt-ALL_ROWS.false

pub returns-else-values-le-MAX_VALUES : goal.returns-else-values-le-MAX_VALUES
returns-else-values-le-MAX_VALUES c = row-many _ _ _ c.if-values-le-MAX_VALUES.false
