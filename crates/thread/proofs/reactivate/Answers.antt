use mathlib.Core.Path.{◌∙◌}
use Rattle.rules.specs.Machine.{awake, others_awake}
use Rattle.thread.proofs.ThreadLaws.{for-on, for-end, awake-one, awake-none, awake-chosen}
use Rattle.thread.proofs.reactivate.Goals as goal
use Rattle.thread.proofs.reactivate.Goals.{else-numbers-t-eq-YIELDED, else-numbers-t-eq-YIELDED-via-else-numbers-t-eq-YIELDED, else-numbers-t-eq-YIELDED-via-then-numbers-t-eq-YIELDED+else-t-chosen, then-numbers-t-eq-YIELDED+then-t-chosen}

pub loop-t-preserved : goal.loop-t-preserved
loop-t-preserved c =
    let h = c.loop-t-test.true in
    let numbers = c.loop-t.numbers in
    let t = c.loop-t.t in
    let chosen = c.args.chosen in
    let on = for-on (awake chosen) numbers 5 t h in
    elim c.if-numbers-t-eq-YIELDED.branch [
      | then-numbers-t-eq-YIELDED+then-t-chosen w ↦ on _ (w.numbers-is ∙ awake-one numbers t chosen w.if-numbers-t-eq-YIELDED.true w.if-t-chosen.true-raw) ∙ c.loop-t.invariant
      | else-numbers-t-eq-YIELDED w ↦ on _ (w.numbers-is ∙ elim w.else-numbers-t-eq-YIELDED.branch [
        | else-numbers-t-eq-YIELDED-via-then-numbers-t-eq-YIELDED+else-t-chosen v ↦ awake-chosen numbers t chosen v.if-numbers-t-eq-YIELDED.true v.if-t-chosen.false-raw
        | else-numbers-t-eq-YIELDED-via-else-numbers-t-eq-YIELDED v ↦ awake-none numbers t chosen v.if-numbers-t-eq-YIELDED.false
      ]) ∙ c.loop-t.invariant
    ]

pub returns : goal.returns
unfolding others_awake
returns c = for-end (awake c.args.chosen) _ 5 c.loop-t.t c.loop-t-test.false ∙ c.loop-t.invariant
