use borrow.Author.Tests.{ne_eqb}
use Rattle.rules.specs.Token.{bytes_of}
use Rattle.limit.specs.Limits.{put_to_do}
use Rattle.limit.proofs.put_to_do.Goals as goal

pub returns-in-1 : goal.returns-in-1
unfolding put_to_do
returns-in-1 c = rw c.in-1.is c.put_spent.ensures

pub returns-in-11 : goal.returns-in-11
unfolding put_to_do bytes_of
returns-in-11 c = rw c.in-11.is c.put_raise.ensures

pub returns-in-12 : goal.returns-in-12
unfolding put_to_do bytes_of
returns-in-12 c = rw c.in-12.is c.put_raise-in-12.ensures

pub returns-in_default : goal.returns-in_default
unfolding put_to_do bytes_of
returns-in_default c =
    let none = c.in_default.in_default-own.rest in
    rw (ne_eqb _ 1 none.0.0.1, ne_eqb _ 11 none.0.1, ne_eqb _ 12 none.1) c.fill.ensures
