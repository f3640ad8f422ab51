use Rattle.steps.proofs.EntryLaws.{there, not_there}
use Rattle.steps.proofs.value.Goals as goal

pub returns-then-i-trace : goal.returns-then-i-trace
returns-then-i-trace c = let g = c.args in there g.trace.now g.i c.if-i-trace.true c.u64_at.ensures

pub returns : goal.returns
returns c = let g = c.args in not_there g.trace.now g.i _ c.if-i-trace.false
