use Rattle.meeting.proofs.MarkedLaws.{thread-nowhere, thread-marked, below_none, turn-marked, turn-same, below_all}
use borrow.Author.Rules.{rules}
use Rattle.meeting.proofs.mark_threads.Goals as goal
use Rattle.meeting.proofs.mark_threads.Goals.{in-Some, in_default}

pub loop-t-init : goal.loop-t-init
loop-t-init c =
    (search rules, search rules, search rules, below_none _ _ c.args.bound c.args.path.now)

pub loop-t-preserved : goal.loop-t-preserved
loop-t-preserved c =
    let call = c.conflict in
    let bound = c.args.bound in
    let t = c.loop-t.t in
    elim c.match-conflict.branch [
      | in-Some w ↦ let turn =
          turn-marked _ _ bound t c.loop-t.opened w.path-is w.opened-is c.loop-t.invariant.1 c.loop-t.invariant.2 c.loop-t.invariant.3
          (thread-marked _ _ bound t call.result call.ensures _ w.in-Some.is w.wide16.ensures.same w.backtrack-opened.ensures) in
          (search rules, turn.0, turn.1, turn.2)
      | in_default w ↦ let turn =
          turn-same _ _ bound t c.loop-t.opened w.path-is w.opened-is c.loop-t.invariant.1 c.loop-t.invariant.2 c.loop-t.invariant.3
          (thread-nowhere _ _ bound t call.result call.ensures w.in_default.is _) in
          (search rules, turn.0, turn.1, turn.2)
    ]

pub returns : goal.returns
returns c =
    below_all _ _ c.args.bound c.loop-t.t c.loop-t.opened (search rules) (search rules) c.loop-t.invariant.3
