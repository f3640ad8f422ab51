use borrow.Enum.Refused.{opened}
use Rattle.std.specs.Prelude.{Ok}
use Rattle.rules.specs.Machine.{acts_as}
use Rattle.layout.specs.Tables.{state}
use Rattle.execution.proofs.ActLaws.{op-within, asks-bit, alone-as, jumps-from, unless-from, checks-from}
use Rattle.execution.proofs.act_alone.Goals as goal

pub register_of-requires : goal.register_of-requires
register_of-requires c =
    let pre = c.requires in
    (pre.0, op-within _ _ c.in-JumpIf.is pre.1)

pub register_of-requires-in-JumpUnless : goal.register_of-requires-in-JumpUnless
register_of-requires-in-JumpUnless c =
    let pre = c.requires in
    (pre.0, op-within _ _ c.in-JumpUnless.is pre.1)

pub register_of-requires-in-Check : goal.register_of-requires-in-Check
register_of-requires-in-Check c =
    let pre = c.requires in
    (pre.0, op-within _ _ c.in-Check.is pre.1)

pub returns-in-Jump : goal.returns-in-Jump
unfolding acts_as
returns-in-Jump c =
    let args = c.args in
    λ p clocks marks m. alone-as p (Ok c.jump_row.result) (state clocks marks args.values.now args.numbers.now) _ args.site.thread args.site.row _ _ c.in-Jump.is m (c.jump_row.ensures clocks marks args.values.now 9 m)

pub returns-in-JumpIf : goal.returns-in-JumpIf
unfolding acts_as
returns-in-JumpIf c =
    let args = c.args in
    λ p clocks marks m.
    alone-as p (Ok c.jump_row-in-JumpIf.result) (state clocks marks args.values.now args.numbers.now) _ args.site.thread args.site.row _ _ c.in-JumpIf.is m
    (jumps-from _ (state clocks marks args.values.now args.numbers.now) args.site.thread args.site.row 10 _ _ c.register_of.ensures _ _ (c.jump_row-in-JumpIf.ensures clocks marks args.values.now 10 m))

pub returns-in-JumpUnless : goal.returns-in-JumpUnless
unfolding acts_as
returns-in-JumpUnless c =
    let args = c.args in
    λ p clocks marks m.
    alone-as p (Ok c.jump_row-in-JumpUnless.result) (state clocks marks args.values.now args.numbers.now) _ args.site.thread args.site.row _ _ c.in-JumpUnless.is m
    (unless-from _ (state clocks marks args.values.now args.numbers.now) args.site.thread args.site.row 11 _ _ c.register_of-in-JumpUnless.ensures _ _ (c.jump_row-in-JumpUnless.ensures clocks marks args.values.now 11 m))

pub returns-in-Check : goal.returns-in-Check
unfolding acts_as
returns-in-Check c =
    let args = c.args in
    λ p clocks marks m.
    alone-as p c.check_row.result (state clocks marks args.values.now args.numbers.now) _ args.site.thread args.site.row _ _ c.in-Check.is m
    (checks-from _ (state clocks marks args.values.now args.numbers.now) args.site.thread args.site.row 12 _ _ c.register_of-in-Check.ensures _ (c.check_row.ensures clocks marks args.values.now 12 m))

pub returns-in-Critical : goal.returns-in-Critical
unfolding acts_as
returns-in-Critical c =
    let args = c.args in
    λ p clocks marks m. alone-as p c.explore_row.result (state clocks marks args.values.now args.numbers.now) _ args.site.thread args.site.row _ _ c.in-Critical.is m (c.explore_row.ensures clocks marks args.values.now 13 m)

pub returns-in-ExploreState : goal.returns-in-ExploreState
unfolding acts_as
returns-in-ExploreState c =
    let args = c.args in
    λ p clocks marks m. alone-as p c.explore_row-in-ExploreState.result (state clocks marks args.values.now args.numbers.now) _ args.site.thread args.site.row _ _ c.in-ExploreState.is m (c.explore_row-in-ExploreState.ensures clocks marks args.values.now 14 m)

pub returns-in-SkipBranch : goal.returns-in-SkipBranch
unfolding acts_as
returns-in-SkipBranch c =
    let args = c.args in
    λ p clocks marks m. alone-as p (Ok c.skip_branch.result) (state clocks marks args.values.now args.numbers.now) _ args.site.thread args.site.row _ _ c.in-SkipBranch.is m (c.skip_branch.ensures clocks marks args.values.now 15 m)

pub returns-in_default : goal.returns-in_default
returns-in_default c =
    let args = c.args in
    λ p clocks marks m. asks-bit p (state clocks marks args.values.now args.numbers.now) args.site.thread args.site.row args.op (opened c.in_default.in_default-own.keys8) c.requires.2
