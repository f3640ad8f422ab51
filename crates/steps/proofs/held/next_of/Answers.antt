use borrow.Enum.Refused.{opened}
use mathlib.Core.Path.{refl}
use Rattle.steps.specs.Holds.{next_of}
use Rattle.steps.proofs.HoldLaws.{jump-from}
use Rattle.steps.proofs.OpLaws.{op-as, op-in, no_jump}
use Rattle.steps.proofs.held.next_of.Goals as goal

pub register_of-requires : goal.register_of-requires
register_of-requires c =
    let pre = c.requires in
    (pre.0, op-in c.in-JumpIf.is pre.1)

pub register_of-requires-in-JumpUnless : goal.register_of-requires-in-JumpUnless
register_of-requires-in-JumpUnless c =
    let pre = c.requires in
    (pre.0, op-in c.in-JumpUnless.is pre.1)

pub returns-in-Jump : goal.returns-in-Jump
unfolding next_of
returns-in-Jump c =
    let g = c.args in
    op-as (next_of g.held.now g.thread g.row) c.in-Jump.is refl

pub returns-in-JumpIf : goal.returns-in-JumpIf
unfolding next_of
returns-in-JumpIf c =
    let g = c.args in
    op-as (next_of g.held.now g.thread g.row) c.in-JumpIf.is (jump-from _ _ _ c.register_of.ensures c.after_jump.ensures)

pub returns-in-JumpUnless : goal.returns-in-JumpUnless
unfolding next_of
returns-in-JumpUnless c =
    let g = c.args in
    op-as (next_of g.held.now g.thread g.row) c.in-JumpUnless.is (jump-from _ _ _ c.register_of-in-JumpUnless.ensures c.after_jump-in-JumpUnless.ensures)

pub returns-in_default : goal.returns-in_default
returns-in_default c = let g = c.args in no_jump g.held.now g.thread g.row g.op (opened c.in_default.in_default-own.keys4)
