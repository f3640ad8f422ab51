use borrow.Author.Tests.{ne_eqb}
use Rattle.rules.specs.Condition as rules
use Rattle.condition.proofs.compared.Goals as goal

pub returns-in-1 : goal.returns-in-1
unfolding rules.compared
returns-in-1 c = rw c.in-1.is

pub returns-in-2 : goal.returns-in-2
unfolding rules.compared
returns-in-2 c = rw c.in-2.is

pub returns-in-3 : goal.returns-in-3
unfolding rules.compared
returns-in-3 c = rw c.in-3.is

pub returns-in-4 : goal.returns-in-4
unfolding rules.compared
returns-in-4 c = rw c.in-4.is

pub returns-in-5 : goal.returns-in-5
unfolding rules.compared
returns-in-5 c = rw c.in-5.is

pub returns-in_default : goal.returns-in_default
unfolding rules.compared
returns-in_default c = let m = c.in_default.in_default-own.rest in rw (ne_eqb _ _ m.0.0.0.0.1, ne_eqb _ _ m.0.0.0.1, ne_eqb _ _ m.0.0.1, ne_eqb _ _ m.0.1, ne_eqb _ _ m.1)
