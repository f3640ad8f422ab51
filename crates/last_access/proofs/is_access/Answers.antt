use Rattle.last_access.specs.Access.{is_access}
use Rattle.last_access.proofs.AccessLaws.{access-none, access-made}
use Rattle.steps.proofs.OpLaws.{says, refuses}
use Rattle.steps.specs.Entries.{entry_read}
use Rattle.last_access.proofs.is_access.Goals as goal

pub returns-in_default : goal.returns-in_default
unfolding is_access
returns-in_default c = access-none _ _ _ (entry_read c.args.trace.now c.args.i) (refuses c.operation.ensures c.in_default.is)

pub returns : goal.returns
unfolding is_access
returns c =
    access-made _ _ _ (entry_read c.args.trace.now c.args.i) (says c.operation.ensures c.in-Some.is) c.thread.ensures c.cell_of.ensures c.eq.ensures c.value.ensures c.is_of.ensures
