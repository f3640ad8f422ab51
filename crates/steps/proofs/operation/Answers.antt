use Rattle.steps.proofs.EntryLaws.{operation-there, operation-none}
use Rattle.steps.proofs.operation.Goals as goal

pub returns-then-i-trace : goal.returns-then-i-trace
returns-then-i-trace c = operation-there _ _ _ c.if-i-trace.true c.thread.ensures c.row.ensures c.row_of.ensures

pub returns : goal.returns
returns c = operation-none _ _ _ c.if-i-trace.false
