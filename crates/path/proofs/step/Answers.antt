use borrow.Author.Rules.{rules}
use Rattle.path.proofs.OpenWalks.{step_start, step-here, step-on, step-none}
use Rattle.path.proofs.step.Goals as goal

pub loop-last-init : goal.loop-last-init
loop-last-init c =
    (c.present-last.ensures.few, c.present-last.ensures.fits, search rules, step_start _ _ _ c.present-last.ensures)

pub returns-then-step_at : goal.returns-then-step_at
returns-then-step_at c =
    step-here _ _ _ _ _ c.loop-last-test.true c.loop-last.invariant.0 _ c.step_at.ensures c.loop-last.invariant.3 c.if-step_at.true c.loop-last.invariant.1 (search rules)

pub loop-last-preserved : goal.loop-last-preserved
loop-last-preserved c =
    (search rules, search rules, search rules, step-on _ _ _ _ _ c.loop-last-test.true c.loop-last.invariant.0 _ c.step_at.ensures c.loop-last.invariant.3 c.if-step_at.false _ c.clear.ensures)

pub returns : goal.returns
returns c = step-none _ _ _ _ c.loop-last-test.false c.loop-last.invariant.2 c.loop-last.invariant.3
