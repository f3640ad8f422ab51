use mathlib.Core.Path.{◌∙◌}
use Rattle.table.proofs.Places.{value-held, value-short, value_none}
use Rattle.table.proofs.start_value.Goals as goal

pub returns-then-at-table : goal.returns-then-at-table
returns-then-at-table c = c.u64_at.ensures ∙ value-held _ _ c.if-i-lt-MAX_VALUES.true c.if-at-table.true

pub returns-else-at-table : goal.returns-else-at-table
returns-else-at-table c = value-short _ _ c.if-i-lt-MAX_VALUES.true c.if-at-table.false

pub returns-else-i-lt-MAX_VALUES : goal.returns-else-i-lt-MAX_VALUES
returns-else-i-lt-MAX_VALUES c = value_none _ _ c.if-i-lt-MAX_VALUES.false
