use Rattle.change.proofs.ChangeLaws.{decremented-none, decremented-some}
use Rattle.change.proofs.decrement.Goals as goal

pub returns-then-value-eq0 : goal.returns-then-value-eq0
returns-then-value-eq0 c = decremented-none _ c.if-value-eq0.true

pub returns-else-value-eq0 : goal.returns-else-value-eq0
returns-else-value-eq0 c = decremented-some _ c.if-value-eq0.false
