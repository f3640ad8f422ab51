use mathlib.Core.Path.{sym, ◌∙◌}
use borrow.Author.Count.{below_more}
use Rattle.reasons.specs.Wrong.{wrong_in}
use Rattle.reasons.proofs.FieldLaws.{wrong-at, wrong-last}
use Rattle.reasons.proofs.wrong.Goals as goal

pub returns-then-not-is_opcode : goal.returns-then-not-is_opcode
unfolding wrong_in
returns-then-not-is_opcode c = rw (← c.is_opcode.ensures, c.if-not-is_opcode.true)

pub returns-then-not-is_fit : goal.returns-then-not-is_fit
returns-then-not-is_fit c =
    wrong-at _ _ (sym c.is_opcode.ensures ∙ c.if-not-is_opcode.false) _ _ c.loop-n-test.true c.loop-n.invariant (sym c.is_fit.ensures ∙ c.if-not-is_fit.true)

pub loop-n-preserved : goal.loop-n-preserved
loop-n-preserved c = below_more _ _ c.loop-n.invariant (sym c.is_fit.ensures ∙ c.if-not-is_fit.false)

pub returns : goal.returns
returns c = wrong-last _ _ (sym c.is_opcode.ensures ∙ c.if-not-is_opcode.false) _ c.loop-n-test.false c.loop-n.invariant
