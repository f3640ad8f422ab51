use borrow.Author.Rules.{rules}
use Rattle.path.proofs.OpenWalks.{sum-start, sum-on, sum-all}
use native.Mathlib.Omega.{arith}
use Rattle.path.proofs.open.Goals as goal

pub loop-at-init : goal.loop-at-init
loop-at-init c = (search rules, search rules, sum-start _ _)

pub loop-at-preserved : goal.loop-at-preserved
loop-at-preserved c =
    (search rules, search rules, sum-on _ _ _ _ _ (omega (arith, c.loop-at-test.true, c.present-at-end.ensures.few)) c.open_at-count.ensures c.loop-at.invariant.2)

pub returns : goal.returns
returns c =
    sum-all _ _ _ _ _ c.present-at-end.ensures c.loop-at.invariant.1 c.loop-at.invariant.0 c.loop-at-test.false c.loop-at.invariant.2
