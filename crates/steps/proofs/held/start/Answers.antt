use mathlib.Core.Path.{refl}
use native.Mathlib.Omega.{arith}
use Rattle.steps.proofs.HoldLaws.{cells_started, start-on, start-all}
use Rattle.steps.proofs.held.start.Goals as goal

pub loop-cell-init : goal.loop-cell-init
unfolding cells_started
loop-cell-init c = refl

pub loop-cell-preserved : goal.loop-cell-preserved
loop-cell-preserved c = start-on _ _ c.start_value.ensures c.loop-cell.invariant c.store.ensures

pub returns : goal.returns
returns c = start-all _ _ (omega arith) (omega arith) c.loop-cell.invariant
