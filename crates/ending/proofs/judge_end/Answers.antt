use mathlib.Core.Path.{◌≡◌}
use borrow.Author.Tests.{not-true, not-false}
use Rattle.ending.specs.Ends.{met_by}
use Rattle.ending.proofs.JudgeLaws.{judge-goes, judge-fault, judge-unmet, judge-exhausted, judge-spent, judge-more, held_by}
use Rattle.ending.proofs.judge_end.Goals as goal

pub returns-in-Goes : goal.returns-in-Goes
returns-in-Goes c = judge-goes _ _ _ _ _ c.in-Goes.is c.no_site.ensures

pub returns-in-Faulted : goal.returns-in-Faulted
returns-in-Faulted c = judge-fault _ _ _ _ _ c.in-Faulted.is

pub returns-then-not-holds : goal.returns-then-not-holds
returns-then-not-holds c =
    let held : let g = c.args in c.holds.result ≡ met_by g.table.now g.condition.now g.values.now =
    let g = c.args in
    held_by g.table.now g.condition.now g.values.now c.threads_of.ensures c.holds.ensures in
    judge-unmet _ _ _ _ _ c.in-Over.is held (not-true _ c.if-not-holds.true-raw)

pub returns-then-not-any_open : goal.returns-then-not-any_open
returns-then-not-any_open c =
    let held : let g = c.args in c.holds.result ≡ met_by g.table.now g.condition.now g.values.now =
    let g = c.args in
    held_by g.table.now g.condition.now g.values.now c.threads_of.ensures c.holds.ensures in
    judge-exhausted _ _ _ _ _ c.in-Over.is held (not-false _ c.if-not-holds.false-raw) c.any_open.ensures (not-true _ c.if-not-any_open.true-raw)

pub returns-then-last : goal.returns-then-last
returns-then-last c =
    let held : let g = c.args in c.holds.result ≡ met_by g.table.now g.condition.now g.values.now =
    let g = c.args in
    held_by g.table.now g.condition.now g.values.now c.threads_of.ensures c.holds.ensures in
    judge-spent _ _ _ _ _ c.in-Over.is held (not-false _ c.if-not-holds.false-raw) c.any_open.ensures (not-false _ c.if-not-any_open.false-raw) c.if-last.true

pub returns : goal.returns
returns c =
    let held : let g = c.args in c.holds.result ≡ met_by g.table.now g.condition.now g.values.now =
    let g = c.args in
    held_by g.table.now g.condition.now g.values.now c.threads_of.ensures c.holds.ensures in
    judge-more _ _ _ _ _ c.in-Over.is held (not-false _ c.if-not-holds.false-raw) c.any_open.ensures (not-false _ c.if-not-any_open.false-raw) c.if-last.false
