use borrow.Enum.Refused.{opened}
use Rattle.rules.specs.Machine.{acts_as}
use Rattle.layout.specs.Tables.{state}
use Rattle.execution.proofs.ActLaws.{op-within, alone_of, alone-as}
use Rattle.execution.proofs.act_unsync.Goals as goal

pub unsync_load_row-requires : goal.unsync_load_row-requires
unsync_load_row-requires c =
    let pre = c.requires in
    (pre.0, (op-within _ _ c.in-UnsyncLoad.is pre.1).0, (op-within _ _ c.in-UnsyncLoad.is pre.1).1)

pub with_mut_row-requires : goal.with_mut_row-requires
with_mut_row-requires c =
    let pre = c.requires in
    (pre.0, (op-within _ _ c.in-WithMut.is pre.1).0, (op-within _ _ c.in-WithMut.is pre.1).1)

pub plain_read_row-requires : goal.plain_read_row-requires
plain_read_row-requires c =
    let pre = c.requires in
    (pre.0, (op-within _ _ c.in-PlainRead.is pre.1).0, (op-within _ _ c.in-PlainRead.is pre.1).1)

pub plain_write_row-requires : goal.plain_write_row-requires
plain_write_row-requires c =
    let pre = c.requires in
    (pre.0, op-within _ _ c.in-PlainWrite.is pre.1)

pub act_alone-requires : goal.act_alone-requires
act_alone-requires c =
    (c.requires.0, c.requires.1, alone_of c.args.op (opened c.in_default.in_default-own.keys5) c.requires.2)

pub returns-in-UnsyncLoad : goal.returns-in-UnsyncLoad
unfolding acts_as
returns-in-UnsyncLoad c =
    let args = c.args in
    λ p marks m. alone-as p c.unsync_load_row.result (state args.clocks.now marks args.values.now args.numbers.now) _ args.site.thread args.site.row _ _ c.in-UnsyncLoad.is m (c.unsync_load_row.ensures marks 5 m)

pub returns-in-WithMut : goal.returns-in-WithMut
unfolding acts_as
returns-in-WithMut c =
    let args = c.args in
    λ p marks m. alone-as p c.with_mut_row.result (state args.clocks.now marks args.values.now args.numbers.now) _ args.site.thread args.site.row _ _ c.in-WithMut.is m (c.with_mut_row.ensures marks 6 m)

pub returns-in-PlainRead : goal.returns-in-PlainRead
unfolding acts_as
returns-in-PlainRead c =
    let args = c.args in
    λ p marks m. alone-as p c.plain_read_row.result (state args.clocks.now marks args.values.now args.numbers.now) _ args.site.thread args.site.row _ _ c.in-PlainRead.is m (c.plain_read_row.ensures marks 17 m)

pub returns-in-PlainWrite : goal.returns-in-PlainWrite
unfolding acts_as
returns-in-PlainWrite c =
    let args = c.args in
    λ p marks m. alone-as p c.plain_write_row.result (state args.clocks.now marks args.values.now args.numbers.now) _ args.site.thread args.site.row _ _ c.in-PlainWrite.is m (c.plain_write_row.ensures marks 18 m)

pub returns-in_default : goal.returns-in_default
returns-in_default c =
    let args = c.args in
    λ p marks m. c.act_alone.ensures p args.clocks.now marks m
