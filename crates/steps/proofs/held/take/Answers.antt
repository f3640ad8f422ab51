use mathlib.Core.Path.{◌∙◌}
use native.Mathlib.Omega.{arith}
use Rattle.steps.proofs.EntryLaws.{operation-within, operation-in}
use Rattle.steps.proofs.HoldLaws.{taken_none, taken_made}
use Rattle.steps.proofs.OpLaws.{says, refuses}
use Rattle.steps.proofs.held.take.Goals as goal

pub returns-in_default : goal.returns-in_default
returns-in_default c = taken_none _ _ _ _ (refuses c.operation.ensures c.in_default.is)

pub next_of-next-requires : goal.next_of-next-requires
next_of-next-requires c =
    operation-in _ _ _ _ c.operation.ensures c.in-Some.is c.thread.ensures c.wide8-thread.ensures.same

pub go_on-requires : goal.go_on-requires
go_on-requires c =
    (operation-in _ _ _ _ c.operation.ensures c.in-Some.is c.thread.ensures c.wide8-thread.ensures.same).0

pub overflow_add-i : goal.overflow_add-i
overflow_add-i c =
    omega (arith, c.well_formed, operation-within _ _ _ (says c.operation.ensures c.in-Some.is))

pub act-requires : goal.act-requires
act-requires c =
    operation-in _ _ _ _ c.operation.ensures c.in-Some.is c.thread.ensures c.wide8-thread.ensures.same

pub returns : goal.returns
returns c =
    taken_made _ _ _ _ (says c.operation.ensures c.in-Some.is) (c.wide8-thread.ensures.same ∙ c.thread.ensures) c.row.ensures c.value.ensures c.next_of-next.ensures c.go_on.ensures c.act.ensures
