use mathlib.Core.Path.{refl, ap, sym, ◌∙◌}
use native.Mathlib.Omega.{arith}
use borrow.Author.Tests.{not-true, not-false}
use Rattle.rules.specs.Table.{max_threads}
use Rattle.table.proofs.Walks.{first_on, first_found, first-none}
use Rattle.refusal.specs.Headers.{one_below, bad_count}
use Rattle.refusal.proofs.RefusalLaws.{told, below_some, below-none}
use Rattle.refusal.proofs.header.bad_count.Goals as goal

pub loop-thread-init : goal.loop-thread-init
unfolding bad_count
loop-thread-init c = refl

pub returns-then-not-count_fine-clause-same : goal.returns-then-not-count_fine-clause-same
returns-then-not-count_fine-clause-same c =
    let args = c.args in
    let bad = told args.table.now args.threads c.loop-thread.thread c.wide8-count.ensures.same c.count_fine.ensures (not-true _ c.if-not-count_fine.true-raw) in
    sym (below_some _ _ _ (first_found _ _ _ (omega arith) bad) (omega arith)) ∙ c.loop-thread.invariant

pub loop-thread-preserved : goal.loop-thread-preserved
loop-thread-preserved c =
    let args = c.args in
    let good = told args.table.now args.threads c.loop-thread.thread c.wide8-count.ensures.same c.count_fine.ensures (not-false _ c.if-not-count_fine.false-raw) in
    ap (one_below max_threads) (first_on _ _ _ (omega arith) good) ∙ c.loop-thread.invariant

pub returns-clause-same : goal.returns-clause-same
returns-clause-same c =
    sym (below-none _ _ (first-none _ _ _ (omega arith) (omega arith))) ∙ c.loop-thread.invariant
