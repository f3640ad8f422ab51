use Rattle.scheduling.proofs.ScheduleLaws.{initial-active, initial-not, initial-away}
use Rattle.scheduling.proofs.initial.Goals as goal
use Rattle.scheduling.proofs.initial.Goals.{else-active-lt-MAX_THREADS, then-active-lt-MAX_THREADS+else-numbers-active-eq-RUNNABLE}

pub returns-then-numbers-active-eq-RUNNABLE : goal.returns-then-numbers-active-eq-RUNNABLE
returns-then-numbers-active-eq-RUNNABLE c =
    initial-active c.args.numbers.now _ c.wide16-active.ensures.same c.if-active-lt-MAX_THREADS.true c.if-numbers-active-eq-RUNNABLE.true

pub returns : goal.returns
returns c =
    let numbers = c.args.numbers.now in
    elim c.if-active-lt-MAX_THREADS.branch [
      | then-active-lt-MAX_THREADS+else-numbers-active-eq-RUNNABLE w ↦ initial-not numbers _ c.wide16-active.ensures.same w.if-active-lt-MAX_THREADS.true w.if-numbers-active-eq-RUNNABLE.false _ c.fewest_yields.ensures
      | else-active-lt-MAX_THREADS w ↦ initial-away numbers _ c.wide16-active.ensures.same w.if-active-lt-MAX_THREADS.false _ c.fewest_yields.ensures
    ]
