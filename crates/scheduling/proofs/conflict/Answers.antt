use mathlib.Core.List.{[]}
use Rattle.layout.specs.Tables.{state}
use Rattle.scheduling.proofs.ScheduleLaws.{means-none, means-on, conflict-none, conflict-apart, conflict-there}
use borrow.Author.Rules.{rules}
use Rattle.scheduling.proofs.conflict.Goals as goal

pub returns-in_default : goal.returns-in_default
returns-in_default c =
    let args = c.args in
    λ marks values.
    let st = state args.clocks.now marks values args.numbers.now in
    conflict-none st args.thread (means-none _ st args.thread (c.pending_operation.ensures args.clocks.now marks values) c.in_default.is)

pub is_concurrent-requires : goal.is_concurrent-requires
is_concurrent-requires c =
    (search rules, (means-on _ _ c.args.thread (c.pending_operation.ensures [] [] []) _ c.in-Some.is).within)

pub last_dependent_branch-requires : goal.last_dependent_branch-requires
last_dependent_branch-requires c =
    (means-on _ _ c.args.thread (c.pending_operation.ensures [] [] []) _ c.in-Some.is).within

pub returns-then-is_concurrent : goal.returns-then-is_concurrent
returns-then-is_concurrent c =
    let args = c.args in
    λ marks values.
    let st = state args.clocks.now marks values args.numbers.now in
    let on = means-on _ st args.thread (c.pending_operation.ensures args.clocks.now marks values) _ c.in-Some.is in
    conflict-there st args.thread _ _ on _ c.is_concurrent.ensures c.if-is_concurrent.true _ c.last_dependent_branch.ensures

pub returns : goal.returns
returns c =
    let args = c.args in
    λ marks values.
    let st = state args.clocks.now marks values args.numbers.now in
    let on = means-on _ st args.thread (c.pending_operation.ensures args.clocks.now marks values) _ c.in-Some.is in
    conflict-apart st args.thread _ _ on _ c.is_concurrent.ensures c.if-is_concurrent.false
