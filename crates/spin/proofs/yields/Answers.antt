use mathlib.Core.Path.{sym, ◌∙◌}
use native.Mathlib.Omega.{arith}
use Rattle.spin.specs.Loops.{is_yield}
use Rattle.spin.proofs.LoopLaws.{yields-from, first_on, first_found, first-none}
use Rattle.spin.proofs.yields.Goals as goal

pub loop-i-init : goal.loop-i-init
loop-i-init c = yields-from _ _ _ (omega arith)

pub returns-then-is_yield : goal.returns-then-is_yield
returns-then-is_yield c =
    sym (first_found (is_yield _) _ _ _ _ (omega arith) (sym c.is_yield.ensures ∙ c.if-is_yield.true)) ∙ c.loop-i.invariant

pub loop-i-preserved : goal.loop-i-preserved
loop-i-preserved c =
    first_on (is_yield _) _ _ _ _ (omega arith) (sym c.is_yield.ensures ∙ c.if-is_yield.false) ∙ c.loop-i.invariant

pub returns : goal.returns
returns c = sym (first-none (is_yield _) _ _ _ _ (omega arith)) ∙ c.loop-i.invariant
