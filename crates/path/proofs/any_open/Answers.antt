use borrow.Author.Rules.{rules}
use Rattle.path.proofs.OpenWalks.{any-start, any_here, any-on, any_none}
use Rattle.path.proofs.any_open.Goals as goal

pub loop-last-init : goal.loop-last-init
loop-last-init c = (c.present-last.ensures.few, c.present-last.ensures.fits, any-start _ _ _ c.present-last.ensures)

pub returns-then-open_at-gt0 : goal.returns-then-open_at-gt0
returns-then-open_at-gt0 c =
    any_here _ _ _ _ c.loop-last-test.true c.loop-last.invariant.0 c.open_at.ensures c.loop-last.invariant.2 c.if-open_at-gt0.true

pub loop-last-preserved : goal.loop-last-preserved
loop-last-preserved c =
    (search rules, search rules, any-on _ _ _ _ c.loop-last-test.true c.loop-last.invariant.0 c.open_at.ensures c.loop-last.invariant.2 c.if-open_at-gt0.false)

pub returns : goal.returns
returns c = any_none _ _ _ c.loop-last-test.false c.loop-last.invariant.2
