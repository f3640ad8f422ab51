use native.Mathlib.Omega.{arith}
use Rattle.steps.specs.Holds.{held_after}
use Rattle.steps.proofs.HoldLaws.{after_on, after-all}
use Rattle.steps.proofs.held.after.Goals as goal

pub loop-i-init : goal.loop-i-init
unfolding held_after
loop-i-init c = c.start-held.ensures

pub loop-i-preserved : goal.loop-i-preserved
loop-i-preserved c = after_on _ _ _ _ c.loop-i.invariant c.take.ensures

pub returns : goal.returns
returns c = after-all _ _ _ _ c.loop-i.invariant (omega arith) (omega arith)
