use borrow.Author.Tests.{lt-ltb, le-ltb}
use Rattle.table.proofs.count_fine.Goals as goal

pub returns-then-thread-threads : goal.returns-then-thread-threads
returns-then-thread-threads c = rw (lt-ltb c.args.thread c.args.threads c.if-thread-threads.true)

pub returns : goal.returns
returns c = rw (le-ltb c.args.thread c.args.threads c.if-thread-threads.false)
