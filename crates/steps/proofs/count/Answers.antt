use mathlib.Core.Path.{sym, ◌∙◌}
use borrow.Author.Tests.{not-true, not-false}
use Rattle.steps.proofs.EntryLaws.{entries-all, entries-on, entries-found, entries_none}
use native.Mathlib.Omega.{arith}
use Rattle.steps.proofs.count.Goals as goal

pub loop-i-init : goal.loop-i-init
loop-i-init c = entries-all _

pub returns-then-not-is_entry : goal.returns-then-not-is_entry
returns-then-not-is_entry c =
    sym (entries-found _ _ (omega arith) (sym c.is_entry.ensures ∙ not-true _ c.if-not-is_entry.true-raw)) ∙ c.loop-i.invariant

pub loop-i-preserved : goal.loop-i-preserved
loop-i-preserved c =
    entries-on _ _ (omega arith) (sym c.is_entry.ensures ∙ not-false _ c.if-not-is_entry.false-raw) ∙ c.loop-i.invariant

pub returns : goal.returns
returns c =
    sym (entries_none _ _ (omega arith) (omega arith)) ∙ c.loop-i.invariant
