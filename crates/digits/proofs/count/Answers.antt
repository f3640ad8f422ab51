use native.Mathlib.Omega.{arith}
use Rattle.digits.proofs.ShownLaws.{at-most, count-one, count-on, count-end}
use borrow.Author.Rules.{rules}
use Rattle.digits.proofs.count.Goals as goal

pub loop-rest-init : goal.loop-rest-init
loop-rest-init c = (search rules, count-one _)

pub overflow_add-k : goal.overflow_add-k
overflow_add-k c =
    omega (arith, at-most c.args.n (search rules))

pub loop-rest-preserved : goal.loop-rest-preserved
loop-rest-preserved c = (search rules, omega (arith, count-on c.loop-rest.rest c.loop-rest-test.true))

pub returns : goal.returns
returns c = omega (arith, count-end c.loop-rest.rest c.loop-rest-test.false)
