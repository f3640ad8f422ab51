use borrow.Enum.Refused.{opened}
use mathlib.Core.Path.{refl}
use Rattle.std.specs.Prelude.{Ok}
use Rattle.rules.specs.Machine.{acts_as}
use Rattle.layout.specs.Tables.{state}
use Rattle.execution.proofs.ActLaws.{op-within, act-as, asks-as}
use Rattle.execution.proofs.StoreLaws.{storing-of}
use Rattle.execution.proofs.act.Goals as goal

pub join_row-requires : goal.join_row-requires
join_row-requires c =
    let pre = c.requires in
    (pre.0, op-within _ _ c.in-Join.is pre.2)

pub act_store-requires : goal.act_store-requires
act_store-requires c =
    (c.requires.0, c.requires.2, storing-of c.args.op (opened c.in_default.in_default-own.keys6))

pub returns-in-Load : goal.returns-in-Load
unfolding acts_as
returns-in-Load c =
    let args = c.args in
    λ p e.
    asks-as p (Ok c.ask_slot.result) (state args.clocks.now args.marks.now args.values.now args.numbers.now) _ args.site.thread args.site.row _ _ c.in-Load.is
    (λ offered. c.ask_slot.ensures args.marks.now args.values.now args.numbers.now args.site.thread args.site.row _ offered)
    refl

pub returns-in-Rmw : goal.returns-in-Rmw
unfolding acts_as
returns-in-Rmw c =
    let args = c.args in
    λ p e.
    asks-as p (Ok c.ask_slot-in-Rmw.result) (state args.clocks.now args.marks.now args.values.now args.numbers.now) _ args.site.thread args.site.row _ _ c.in-Rmw.is
    (λ offered. c.ask_slot-in-Rmw.ensures args.marks.now args.values.now args.numbers.now args.site.thread args.site.row _ offered)
    refl

pub returns-in-Fence : goal.returns-in-Fence
unfolding acts_as
returns-in-Fence c =
    let args = c.args in
    λ p e. act-as p (Ok c.fence_row.result) (state args.clocks.now args.marks.now args.values.now args.numbers.now) _ args.site.thread args.site.row _ _ c.in-Fence.is (c.fence_row.ensures p args.values.now 4 _ e)

pub returns-in-Yield : goal.returns-in-Yield
unfolding acts_as
returns-in-Yield c =
    let args = c.args in
    λ p e. act-as p (Ok c.yield_row.result) (state args.clocks.now args.marks.now args.values.now args.numbers.now) _ args.site.thread args.site.row _ _ c.in-Yield.is (c.yield_row.ensures args.marks.now args.values.now 7 _)

pub returns-in-Join : goal.returns-in-Join
unfolding acts_as
returns-in-Join c =
    let args = c.args in
    λ p e. act-as p (Ok c.join_row.result) (state args.clocks.now args.marks.now args.values.now args.numbers.now) _ args.site.thread args.site.row _ _ c.in-Join.is (c.join_row.ensures args.marks.now args.values.now 8 _)

pub returns-in_default : goal.returns-in_default
returns-in_default c = λ p e. c.act_store.ensures p _
