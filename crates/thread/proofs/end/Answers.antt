use mathlib.Core.Path.{◌∙◌}
use Rattle.rules.specs.Machine.{freed}
use Rattle.thread.proofs.ThreadLaws.{for-on, for-end, freed-one, freed-other, freed-away, ended-as}
use Rattle.thread.proofs.end.Goals as goal
use Rattle.thread.proofs.end.Goals.{else-numbers-t-eq-BLOCKED, else-numbers-t-eq-BLOCKED-via-else-numbers-t-eq-BLOCKED, else-numbers-t-eq-BLOCKED-via-then-numbers-t-eq-BLOCKED+else-wide16-thread, then-numbers-t-eq-BLOCKED+then-wide16-thread}

pub loop-t-preserved : goal.loop-t-preserved
loop-t-preserved c =
    let h = c.loop-t-test.true in
    let numbers = c.loop-t.numbers in
    let t = c.loop-t.t in
    let thread = c.args.thread in
    let on = for-on (freed thread) numbers 5 t h in
    elim c.if-numbers-t-eq-BLOCKED.branch [
      | then-numbers-t-eq-BLOCKED+then-wide16-thread w ↦ on _ (w.numbers-is ∙ freed-one numbers thread t w.if-numbers-t-eq-BLOCKED.true _ w.wide16.ensures.same w.if-wide16-thread.true-raw) ∙ c.loop-t.invariant
      | else-numbers-t-eq-BLOCKED w ↦ on _ (w.numbers-is ∙ elim w.else-numbers-t-eq-BLOCKED.branch [
        | else-numbers-t-eq-BLOCKED-via-then-numbers-t-eq-BLOCKED+else-wide16-thread v ↦ freed-away numbers thread t v.if-numbers-t-eq-BLOCKED.true _ v.wide16.ensures.same v.if-wide16-thread.false-raw
        | else-numbers-t-eq-BLOCKED-via-else-numbers-t-eq-BLOCKED v ↦ freed-other numbers thread t v.if-numbers-t-eq-BLOCKED.false
      ]) ∙ c.loop-t.invariant
    ]

pub returns : goal.returns
returns c =
    let args = c.args in
    let all = for-end (freed args.thread) _ 5 c.loop-t.t c.loop-t-test.false ∙ c.loop-t.invariant in
    λ clocks marks values. ended-as clocks marks values args.numbers.now c.loop-t.numbers args.thread all
