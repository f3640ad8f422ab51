use Rattle.meeting.proofs.ComesLaws.{complete-noted, complete-not}
use Rattle.meeting.proofs.note_if.Goals as goal

pub returns-then-yielded : goal.returns-then-yielded
returns-then-yielded c =
    complete-noted c.args.here c.args.cursor c.note.result c.args.yielded c.if-yielded.true c.note.ensures

pub returns : goal.returns
returns c =
    complete-not c.args.here c.args.cursor c.goes.result c.args.yielded _ c.requires c.goes.ensures c.if-yielded.false
