use native.Mathlib.Omega.{arith}
use mathlib.Core.Path.{refl, sym, ◌∙◌}
use borrow.Author.Tests.{not-true}
use Rattle.table.proofs.Walks.{header-is, header_held, threads_in, threads-past, threads-none, judged-bad, judged-rows}
use borrow.Author.Rules.{rules}
use Rattle.table.proofs.judge.Goals as goal

pub returns-then-not-header_fine : goal.returns-then-not-header_fine
returns-then-not-header_fine c = judged-bad _ (sym c.header_fine.ensures ∙ not-true c.header_fine.result c.if-not-header_fine.true-raw)

pub loop-thread-init : goal.loop-thread-init
loop-thread-init c = (search rules, refl)

pub bounds-table-thread : goal.bounds-table-thread
bounds-table-thread c = omega (arith, header_held _ c.header_fine.ensures c.if-not-header_fine.false-raw)

pub first_bad-requires : goal.first_bad-requires
first_bad-requires c = (header_held _ c.header_fine.ensures c.if-not-header_fine.false-raw, search rules)

pub returns-in-Some : goal.returns-in-Some
returns-in-Some c =
    threads_in _ (header_held _ c.header_fine.ensures c.if-not-header_fine.false-raw) _ _ _ c.loop-thread-test.true c.wide8-count.ensures.same c.in-Some.is c.first_bad.ensures.is c.first_bad.ensures.within
    ∙ c.loop-thread.invariant.1 ∙ judged-rows _ (header-is _ c.header_fine.ensures c.if-not-header_fine.false-raw)

pub loop-thread-preserved : goal.loop-thread-preserved
loop-thread-preserved c =
    (search rules, threads-past _ (header_held _ c.header_fine.ensures c.if-not-header_fine.false-raw) _ _ _ c.loop-thread-test.true c.wide8-count.ensures.same c.in_default.is c.first_bad.ensures.is ∙ c.loop-thread.invariant.1)

pub returns : goal.returns
returns c =
    sym (threads-none _ (header_held _ c.header_fine.ensures c.if-not-header_fine.false-raw) c.loop-thread.thread _ c.loop-thread-test.false)
    ∙ c.loop-thread.invariant.1 ∙ judged-rows _ (header-is _ c.header_fine.ensures c.if-not-header_fine.false-raw)
