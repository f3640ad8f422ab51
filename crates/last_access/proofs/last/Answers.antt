use mathlib.Core.Path.{refl, sym, ◌∙◌}
use Rattle.last_access.specs.Access.{last_access_step}
use Rattle.last_access.proofs.AccessLaws.{last_on, last_found, last-none}
use Rattle.last_access.proofs.last.Goals as goal

pub loop-i-init : goal.loop-i-init
unfolding last_access_step
loop-i-init c = refl

pub returns-then-is_access-clause-same : goal.returns-then-is_access-clause-same
returns-then-is_access-clause-same c =
    last_found _ _ c.loop-i-test.true (sym c.is_access.ensures ∙ c.if-is_access.true) ∙ c.loop-i.invariant

pub loop-i-preserved : goal.loop-i-preserved
loop-i-preserved c =
    last_on _ _ c.loop-i-test.true (sym c.is_access.ensures ∙ c.if-is_access.false) ∙ c.loop-i.invariant

pub returns-clause-same : goal.returns-clause-same
returns-clause-same c = last-none _ _ c.loop-i-test.false ∙ c.loop-i.invariant
