use Rattle.meeting.proofs.BranchLaws.{reach-there, reach-adds}
use Rattle.meeting.proofs.MetLaws.{goes-met}
use Rattle.meeting.proofs.reach.Goals as goal

pub returns-then-cursor : goal.returns-then-cursor
returns-then-cursor c =
    let args = c.args in
    reach-adds args.cursor c.add.result args.here args.question args.clocks.now args.marks.now args.numbers.now args.path.now c.if-cursor.true c.add.ensures

pub returns : goal.returns
returns c =
    let args = c.args in
    reach-there args.cursor c.goes.result args.here args.question args.clocks.now args.marks.now args.numbers.now args.path.now c.if-cursor.false (goes-met args.cursor c.goes.result c.requires.1 c.if-cursor.false c.requires.2 c.goes.ensures.stays) c.goes.ensures
