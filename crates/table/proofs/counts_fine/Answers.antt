use Prim.Native.Nat.{◌+◌}
use mathlib.Core.Path.{◌≡◌, sym, ◌∙◌}
use mathlib.Core.Bool.{true, false}
use lib.ListN.{get_or}
use borrow.Author.Tests.{not-true, not-false}
use Rattle.rules.specs.Table.{count_fine}
use Rattle.table.proofs.Walks.{counts-on, counts_end, counts-none}
use Rattle.table.proofs.counts_fine.Goals as goal

pub returns-then-not-count_fine : goal.returns-then-not-count_fine
returns-then-not-count_fine c =
    let e : count_fine c.args.threads c.loop-thread.thread (get_or c.args.table.now (2 + c.loop-thread.thread) 0) ≡ false = cc (not-true c.count_fine.result c.if-not-count_fine.true-raw) in
    sym (sym c.loop-thread.invariant ∙ counts_end _ c.requires _ _ c.loop-thread-test.true e)

pub loop-thread-preserved : goal.loop-thread-preserved
loop-thread-preserved c =
    let e : count_fine c.args.threads c.loop-thread.thread (get_or c.args.table.now (2 + c.loop-thread.thread) 0) ≡ true = cc (not-false c.count_fine.result c.if-not-count_fine.false-raw) in
    counts-on _ c.requires _ _ c.loop-thread-test.true e ∙ c.loop-thread.invariant

pub returns : goal.returns
returns c =
    sym (counts-none _ c.requires _ c.loop-thread.thread c.loop-thread-test.false) ∙ c.loop-thread.invariant
