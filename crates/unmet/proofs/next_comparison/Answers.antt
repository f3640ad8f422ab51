use mathlib.Core.Path.{sym, ◌∙◌}
use native.Mathlib.Omega.{arith}
use Rattle.unmet.proofs.PartLaws.{next-all, next-on, next-found, next-none}
use Rattle.unmet.proofs.next_comparison.Goals as goal

pub loop-i-init : goal.loop-i-init
loop-i-init c = next-all _ _

pub returns-then-is_sign : goal.returns-then-is_sign
returns-then-is_sign c =
    sym (next-found c.args.condition.now _ (omega arith) (sym c.is_sign.ensures ∙ c.if-is_sign.true)) ∙ c.loop-i.invariant

pub loop-i-preserved : goal.loop-i-preserved
loop-i-preserved c =
    next-on c.args.condition.now _ (omega arith) (sym c.is_sign.ensures ∙ c.if-is_sign.false) ∙ c.loop-i.invariant

pub returns : goal.returns
returns c = sym (next-none c.args.condition.now _ (omega arith)) ∙ c.loop-i.invariant
