use native.Mathlib.Omega.{arith}
use Rattle.coverage.proofs.SaysLaws.{old-on, old-none}
use Rattle.coverage.proofs.put_old_stores.Goals as goal

pub loop-cell-preserved : goal.loop-cell-preserved
loop-cell-preserved c = old-on _ _ _ _ c.loop-cell.invariant _ (omega arith) c.put_stores-to.ensures

pub returns : goal.returns
returns c = old-none _ _ _ _ c.loop-cell.invariant (omega arith)
