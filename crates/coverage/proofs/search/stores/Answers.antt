use Rattle.coverage.proofs.SearchLaws.{stores-all, sum-on, sum-none}
use native.Mathlib.Omega.{arith}
use borrow.Author.Rules.{rules}
use Rattle.coverage.proofs.search.stores.Goals as goal

pub loop-thread-init : goal.loop-thread-init
loop-thread-init c = (search rules, stores-all _ _ _ c.shape-shape.ensures)

pub loop-thread-preserved : goal.loop-thread-preserved
loop-thread-preserved c = (
  search rules,
  sum-on _ _ _ _ _ c.loop-thread.invariant.1 _ (omega arith) c.stores_in-sum.ensures.0,
)

pub returns : goal.returns
returns c = sum-none _ _ _ _ _ c.loop-thread.invariant.1 (omega arith)
