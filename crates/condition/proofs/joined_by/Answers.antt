use borrow.Author.Tests.{eq-eqb, ne_eqb}
use Rattle.condition.proofs.joined_by.Goals as goal

pub returns-then-joint-eq-BOTH : goal.returns-then-joint-eq-BOTH
returns-then-joint-eq-BOTH c = rw (eq-eqb _ _ c.if-joint-eq-BOTH.true)

pub returns : goal.returns
returns c = rw (ne_eqb _ _ c.if-joint-eq-BOTH.false)
