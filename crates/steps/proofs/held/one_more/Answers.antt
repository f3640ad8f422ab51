use borrow.Author.Tests.{lt-ltb, le-ltb}
use Rattle.steps.proofs.held.one_more.Goals as goal

pub returns-then-count : goal.returns-then-count
returns-then-count c = rw (lt-ltb c.args.count 65535 c.if-count.true)

pub returns : goal.returns
returns c = rw (le-ltb c.args.count 65535 c.if-count.false)
