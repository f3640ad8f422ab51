use borrow.Enum.Refused.{opened}
use Rattle.steps.specs.Holds.{acted}
use Rattle.steps.proofs.OpLaws.{op-as, op-in, no-act}
use Rattle.steps.proofs.held.act.Goals as goal

pub put-requires : goal.put-requires
put-requires c =
    let pre = c.requires in
    let within = op-in c.in-Load.is pre.1 in
    (pre.0, within.1)

pub store-requires : goal.store-requires
store-requires c =
    let pre = c.requires in
    let within = op-in c.in-Store.is pre.1 in
    within

pub store-requires-in-StoreRegister : goal.store-requires-in-StoreRegister
store-requires-in-StoreRegister c =
    let pre = c.requires in
    let within = op-in c.in-StoreRegister.is pre.1 in
    within.0

pub rmw-requires : goal.rmw-requires
rmw-requires c =
    let pre = c.requires in
    let within = op-in c.in-Rmw.is pre.1 in
    (pre.0, within.0, within.1)

pub put-requires-in-UnsyncLoad : goal.put-requires-in-UnsyncLoad
put-requires-in-UnsyncLoad c =
    let pre = c.requires in
    let within = op-in c.in-UnsyncLoad.is pre.1 in
    (pre.0, within.1)

pub with_mut-requires : goal.with_mut-requires
with_mut-requires c =
    let pre = c.requires in
    let within = op-in c.in-WithMut.is pre.1 in
    (pre.0, within.0, within.1)

pub put-requires-in-Spurious : goal.put-requires-in-Spurious
put-requires-in-Spurious c =
    let pre = c.requires in
    let within = op-in c.in-Spurious.is pre.1 in
    (pre.0, within)

pub put-requires-in-PlainRead : goal.put-requires-in-PlainRead
put-requires-in-PlainRead c =
    let pre = c.requires in
    let within = op-in c.in-PlainRead.is pre.1 in
    (pre.0, within.1)

pub write-requires : goal.write-requires
write-requires c =
    let pre = c.requires in
    let within = op-in c.in-PlainWrite.is pre.1 in
    within

pub returns-in-Load : goal.returns-in-Load
unfolding acted
returns-in-Load c =
    let g = c.args in
    op-as (acted g.held.now g.thread g.value g.step) c.in-Load.is c.put.ensures

pub returns-in-Store : goal.returns-in-Store
unfolding acted
returns-in-Store c =
    let g = c.args in
    op-as (acted g.held.now g.thread g.value g.step) c.in-Store.is c.store.ensures

pub returns-in-StoreRegister : goal.returns-in-StoreRegister
unfolding acted
returns-in-StoreRegister c =
    let g = c.args in
    op-as (acted g.held.now g.thread g.value g.step) c.in-StoreRegister.is c.store-in-StoreRegister.ensures

pub returns-in-Rmw : goal.returns-in-Rmw
unfolding acted
returns-in-Rmw c =
    let g = c.args in
    op-as (acted g.held.now g.thread g.value g.step) c.in-Rmw.is c.rmw.ensures

pub returns-in-UnsyncLoad : goal.returns-in-UnsyncLoad
unfolding acted
returns-in-UnsyncLoad c =
    let g = c.args in
    op-as (acted g.held.now g.thread g.value g.step) c.in-UnsyncLoad.is c.put-in-UnsyncLoad.ensures

pub returns-in-WithMut : goal.returns-in-WithMut
unfolding acted
returns-in-WithMut c =
    let g = c.args in
    op-as (acted g.held.now g.thread g.value g.step) c.in-WithMut.is c.with_mut.ensures

pub returns-in-Spurious : goal.returns-in-Spurious
unfolding acted
returns-in-Spurious c =
    let g = c.args in
    op-as (acted g.held.now g.thread g.value g.step) c.in-Spurious.is c.put-in-Spurious.ensures

pub returns-in-PlainRead : goal.returns-in-PlainRead
unfolding acted
returns-in-PlainRead c =
    let g = c.args in
    op-as (acted g.held.now g.thread g.value g.step) c.in-PlainRead.is c.put-in-PlainRead.ensures

pub returns-in-PlainWrite : goal.returns-in-PlainWrite
unfolding acted
returns-in-PlainWrite c =
    let g = c.args in
    op-as (acted g.held.now g.thread g.value g.step) c.in-PlainWrite.is c.write.ensures

pub returns-in_default : goal.returns-in_default
returns-in_default c = let g = c.args in no-act g.held.now g.thread g.value g.step g.op (opened c.in_default.in_default-own.keys10)
