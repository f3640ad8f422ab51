use Rattle.steps.proofs.OpLaws.{says, refuses}
use Rattle.outcome.proofs.CameLaws.{came-none, came-some}
use Rattle.outcome.proofs.of_step.Goals as goal

pub returns-in_default : goal.returns-in_default
returns-in_default c = came-none _ _ _ _ (refuses c.operation.ensures c.in_default.is)

pub returns : goal.returns
returns c =
    came-some _ _ _ _ _ _ _ _ (says c.operation.ensures c.in-Some.is) c.thread-thread.ensures c.slot-slot.ensures c.value.ensures _ c.of_row.ensures
