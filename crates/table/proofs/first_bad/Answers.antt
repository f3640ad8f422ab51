use mathlib.Core.Path.{sym, ◌∙◌}
use borrow.Author.Tests.{not-true, not-false}
use Rattle.table.proofs.Walks.{bad-all, fine-in, first_on, first_found, first-none}
use Rattle.table.proofs.first_bad.Goals as goal

pub loop-i-init : goal.loop-i-init
loop-i-init c = bad-all _ _ _

pub returns-then-not-is_fine-clause-is : goal.returns-then-not-is_fine-clause-is
returns-then-not-is_fine-clause-is c =
    sym (first_found _ _ _ c.loop-i-test.true (fine-in _ _ _ c.loop-i.i c.room_of-room.ensures c.is_fine.ensures ∙ not-true c.is_fine.result c.if-not-is_fine.true-raw)) ∙ c.loop-i.invariant

pub loop-i-preserved : goal.loop-i-preserved
loop-i-preserved c =
    first_on _ _ _ c.loop-i-test.true (fine-in _ _ _ c.loop-i.i c.room_of-room.ensures c.is_fine.ensures ∙ not-false c.is_fine.result c.if-not-is_fine.false-raw) ∙ c.loop-i.invariant

pub returns-clause-is : goal.returns-clause-is
returns-clause-is c =
    sym (first-none _ _ _ c.loop-i-test.false c.loop-i.auto.i-end) ∙ c.loop-i.invariant
