use Rattle.coverage.proofs.SearchLaws.{from_all, from_on, from_found, from-none}
use mathlib.Core.Path.{sym, ◌∙◌}
use native.Mathlib.Omega.{arith}
use Rattle.coverage.proofs.search.first_switch.Goals as goal

pub loop-thread-init : goal.loop-thread-init
loop-thread-init c = from_all _ _ _ c.shape-shape.ensures

pub returns-in-Some : goal.returns-in-Some
returns-in-Some c = from_found _ _ _ _ _ c.loop-thread.invariant (omega arith) _ c.in-Some.ensures

pub loop-thread-preserved : goal.loop-thread-preserved
loop-thread-preserved c = from_on _ _ _ _ _ c.loop-thread.invariant (omega arith) (sym c.in_default.is ∙ c.first_in.ensures)

pub returns : goal.returns
returns c = from-none _ _ _ _ _ c.loop-thread.invariant (omega arith)
