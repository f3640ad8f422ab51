use mathlib.Core.Path.{sym, ◌∙◌}
use native.Mathlib.Omega.{arith}
use borrow.Author.Tests.{not-true, not-false}
use Rattle.spin.proofs.LoopLaws.{repeats-few, repeats-from, repeats-on, repeats-not, repeats-all}
use borrow.Author.Rules.{rules}
use Rattle.spin.proofs.repeats.Goals as goal

pub returns-then-n-p : goal.returns-then-n-p
returns-then-n-p c = repeats-few _ _ _ (omega arith)

pub loop-i-init : goal.loop-i-init
loop-i-init c = (search rules, repeats-from _ _ _ (omega arith))

pub returns-then-not-same_row : goal.returns-then-not-same_row
returns-then-not-same_row c =
    sym (repeats-not _ _ _ _ (omega arith) (sym c.same_row.ensures ∙ not-true _ c.if-not-same_row.true-raw)) ∙ c.loop-i.invariant.1

pub loop-i-preserved : goal.loop-i-preserved
loop-i-preserved c =
    (search rules, repeats-on _ _ _ _ (omega arith) (sym c.same_row.ensures ∙ not-false _ c.if-not-same_row.false-raw) ∙ c.loop-i.invariant.1)

pub returns : goal.returns
returns c = sym (repeats-all _ _ _ _ (omega arith)) ∙ c.loop-i.invariant.1
