use Rattle.rules.specs.Token.{bytes_of}
use Rattle.finally.proofs.put_truth.Goals as goal

pub returns-then-holds : goal.returns-then-holds
unfolding bytes_of
returns-then-holds c = rw c.if-holds.true c.put.ensures

pub returns : goal.returns
unfolding bytes_of
returns c = rw c.if-holds.false c.put-2.ensures
