use borrow.Author.Tests.{eq-eqb, ne_eqb}
use Rattle.rules.specs.Token.{bytes_of}
use Rattle.coverage.specs.Says.{put_executions}
use Rattle.coverage.proofs.put_executions.Goals as goal

pub returns-then-begun-eq1 : goal.returns-then-begun-eq1
unfolding put_executions bytes_of
returns-then-begun-eq1 c = rw (eq-eqb _ 1 c.if-begun-eq1.true) c.put.ensures

pub returns : goal.returns
unfolding put_executions bytes_of
returns c = rw (ne_eqb _ 1 c.if-begun-eq1.false) c.fill.ensures
