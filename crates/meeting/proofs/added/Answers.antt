use Rattle.meeting.proofs.MetLaws.{added-few, added-one, added_full, added-preempted, err-known}
use borrow.Author.Rules.{rules}
use Rattle.meeting.proofs.added.Goals as goal

pub overflow_add-cursor-in-Ok : goal.overflow_add-cursor-in-Ok
overflow_add-cursor-in-Ok c =
    let few = added-few c.args.pushed c.in-Ok.is c.requires.0 in
    search rules

pub returns-in-Ok : goal.returns-in-Ok
returns-in-Ok c =
    added-one c.args.pushed c.args.site c.args.cursor c.goes.result c.in-Ok.is c.goes.ensures.is (search rules)

pub returns-in-Err-Full : goal.returns-in-Err-Full
returns-in-Err-Full c =
    added_full c.args.pushed c.args.site c.args.cursor c.faulted.result (err-known c.in-Err-Full.is (rw c.in-Err-Full.is at c.in-Err-Full.field-0-is)) c.faulted.ensures

pub returns-in-Err-Preempted : goal.returns-in-Err-Preempted
returns-in-Err-Preempted c =
    added-preempted c.args.pushed c.args.site c.args.cursor c.faulted-in-Err-Preempted.result (err-known c.in-Err-Preempted.is (rw c.in-Err-Preempted.is at c.in-Err-Preempted.field-0-is)) c.faulted-in-Err-Preempted.ensures
