use borrow.Author.Tests.{not-true, not-false}
use Rattle.record.proofs.OpenLaws.{open-not, open-schedule, open-load, open-spurious, open-other}
use Rattle.record.proofs.open_at.Goals as goal

pub returns-then-not-is_exploring : goal.returns-then-not-is_exploring
returns-then-not-is_exploring c = open-not _ _ _ c.is_exploring.ensures (not-true _ c.if-not-is_exploring.true-raw)

pub returns-in-1 : goal.returns-in-1
returns-in-1 c =
    open-schedule _ _ _ c.is_exploring.ensures (not-false _ c.if-not-is_exploring.false-raw) _ c.field-kind.ensures c.in-1.is _ c.pending.ensures

pub returns-in-2 : goal.returns-in-2
returns-in-2 c =
    open-load _ _ _ c.is_exploring.ensures (not-false _ c.if-not-is_exploring.false-raw) _ c.field-kind.ensures c.in-2.is _ c.«open».ensures

pub returns-in-3 : goal.returns-in-3
returns-in-3 c =
    open-spurious _ _ _ c.is_exploring.ensures (not-false _ c.if-not-is_exploring.false-raw) _ c.field-kind.ensures c.in-3.is _ c.open-in-3.ensures

pub returns-in_default : goal.returns-in_default
returns-in_default c =
    let others = c.in_default.in_default-own.rest in
    open-other _ _ _ c.is_exploring.ensures (not-false _ c.if-not-is_exploring.false-raw) _ c.field-kind.ensures others.0.0.1 others.0.1 others.1
