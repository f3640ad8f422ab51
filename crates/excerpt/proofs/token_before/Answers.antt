use mathlib.Core.Path.{sym, ◌∙◌}
use native.Mathlib.Omega.{arith}
use Rattle.excerpt.proofs.BeforeLaws.{before-out, before_here, before_on}
use Rattle.excerpt.proofs.token_before.Goals as goal

pub returns-then-place-here : goal.returns-then-place-here
returns-then-place-here c =
    sym (before_here _ _ _ _ _ _ (omega arith) c.past_blanks-here.ensures c.if-place-here.true) ∙ c.loop-passed.invariant

pub loop-passed-preserved : goal.loop-passed-preserved
loop-passed-preserved c =
    before_on _ _ _ _ _ _ (omega arith) c.past_blanks-here.ensures _ _ (omega arith) c.if-place-here.false c.token_end-from.ensures ∙ c.loop-passed.invariant

pub returns : goal.returns
returns c = sym (before-out _ _ _ _ _ (omega arith)) ∙ c.loop-passed.invariant
