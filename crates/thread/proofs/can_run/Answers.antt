use Rattle.thread.proofs.ThreadLaws.{run_none, run-some}
use Rattle.thread.proofs.can_run.Goals as goal

pub returns-then-thread-ge-MAX_THREADS : goal.returns-then-thread-ge-MAX_THREADS
returns-then-thread-ge-MAX_THREADS c = run_none c.args.numbers.now c.args.thread c.if-thread-ge-MAX_THREADS.true

pub returns : goal.returns
returns c = run-some c.args.numbers.now c.args.thread c.if-thread-ge-MAX_THREADS.false
