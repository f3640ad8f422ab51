use borrow.Enum.Refused.{opened}
use Rattle.walk.proofs.MeetLaws.{meet_stays, meet-unexpected, meet-answered}
use native.Mathlib.Omega.{arith}
use Rattle.walk.proofs.WalkLaws.{says-within}
use Rattle.walk.proofs.meet.Goals as goal

pub returns-in_default : goal.returns-in_default
returns-in_default c =
    let args = c.args in
    meet_stays args.at.cursor c.reach-met.result args.at.here args.question args.clocks.now args.marks.now args.values.now args.numbers.now args.path.now _ args.trace.now c.requires.1 c.reach-met.ensures (opened c.in_default.in_default-own.keys2)

pub returns-in_default-answer : goal.returns-in_default-answer
returns-in_default-answer c =
    let args = c.args in
    meet-unexpected args.at.cursor c.reach-met.result args.at.here args.question args.clocks.now args.marks.now args.values.now args.numbers.now args.path.now _ args.trace.now c.requires.1 c.reach-met.ensures c.in-Goes.is c.reach-met.auto.path c.answer.result c.answer.ensures c.in_default-answer.is c.faulted.result c.faulted.ensures

pub answered-event-requires : goal.answered-event-requires
answered-event-requires c =
    (c.requires.0, says-within c.answer.result c.in-Some.is c.answer.ensures.within)

pub passed-requires : goal.passed-requires
passed-requires c =
    omega (arith, c.reach-met.ensures.met.passed, c.reach-met.ensures.met.within, c.reach-met.auto, c.well_formed)

pub conclude-requires : goal.conclude-requires
conclude-requires c =
    omega (arith, c.passed.ensures.same_entries, c.reach-met.ensures.met.same_entries, c.requires.1.noted)

pub shape_of-path : goal.shape_of-path
shape_of-path c = omega (arith, c.reach-met.auto)

pub returns : goal.returns
returns c =
    let args = c.args in
    meet-answered args.at.cursor c.reach-met.result args.at.here args.question args.clocks.now args.marks.now args.values.now args.numbers.now args.path.now _ args.trace.now c.requires.1 c.reach-met.ensures _ c.answered-event.result _ _ _ _ _ c.passed.ensures (c.answered-event.ensures _) c.conclude.result _ c.conclude.ensures c.in-Goes.is c.reach-met.auto.path c.answer.result c.answer.ensures c.in-Some.is
