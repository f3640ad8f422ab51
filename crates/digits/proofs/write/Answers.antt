use native.Mathlib.Omega.{arith}
use Rattle.digits.proofs.ShownLaws.{lowest-all, at-most, write-on, write-end}
use borrow.Author.Rules.{rules}
use Rattle.digits.proofs.write.Goals as goal

pub loop-i-init : goal.loop-i-init
loop-i-init c = rw (c.requires, lowest-all c.args.n)

pub bounds-out-i : goal.bounds-out-i
bounds-out-i c =
    omega (arith, at-most c.args.n (search rules))

pub loop-i-preserved : goal.loop-i-preserved
loop-i-preserved c = write-on _ _ _ _ c.loop-i.invariant c.loop-i-test.true

pub returns : goal.returns
returns c = write-end _ _ _ _ c.loop-i.invariant c.loop-i-test.false
