use native.Mathlib.Omega.{arith}
use Rattle.token.proofs.PlaceLaws.{line-past, line_on, line-stops}
use Rattle.token.proofs.next_line.Goals as goal

pub returns-then-text-to-eq10 : goal.returns-then-text-to-eq10
returns-then-text-to-eq10 c =
    omega (arith, line-stops c.args.text.now c.loop-to.to c.loop-to-test.true c.if-text-to-eq10.true)

pub loop-to-preserved : goal.loop-to-preserved
loop-to-preserved c =
    omega (arith, line_on c.args.text.now c.loop-to.to c.loop-to-test.true c.if-text-to-eq10.false)

pub returns : goal.returns
returns c =
    grind (arith, c.max.ensures, line-past c.args.text.now c.loop-to.to c.loop-to-test.false, line-past c.args.text.now c.args.at)
