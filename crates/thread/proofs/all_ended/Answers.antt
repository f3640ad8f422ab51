use mathlib.Core.Path.{◌∙◌}
use Rattle.thread.proofs.ThreadLaws.{over-not, over-ended, over-absent, over-end}
use Rattle.thread.proofs.all_ended.Goals as goal
use Rattle.thread.proofs.all_ended.Goals.{else-state-ne-ENDED-via-else-state-ne-ENDED, else-state-ne-ENDED-via-then-state-ne-ENDED+else-state-ne-ABSENT}

pub returns-then-state-ne-ABSENT : goal.returns-then-state-ne-ABSENT
returns-then-state-ne-ABSENT c =
    over-not _ 5 c.loop-t.t c.loop-t-test.true c.if-state-ne-ENDED.true c.if-state-ne-ABSENT.true-raw ∙ c.loop-t.invariant

pub loop-t-preserved : goal.loop-t-preserved
loop-t-preserved c =
    let h = c.loop-t-test.true in
    let numbers = c.args.numbers.now in
    elim c.else-state-ne-ENDED.branch [
      | else-state-ne-ENDED-via-then-state-ne-ENDED+else-state-ne-ABSENT w ↦ over-absent numbers 5 c.loop-t.t h w.if-state-ne-ENDED.true w.if-state-ne-ABSENT.false-raw ∙ c.loop-t.invariant
      | else-state-ne-ENDED-via-else-state-ne-ENDED w ↦ over-ended numbers 5 c.loop-t.t h w.if-state-ne-ENDED.false ∙ c.loop-t.invariant
    ]

pub returns : goal.returns
returns c = over-end _ 5 c.loop-t.t c.loop-t-test.false ∙ c.loop-t.invariant
