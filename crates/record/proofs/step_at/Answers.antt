use borrow.Author.Tests.{not-true, not-false}
use Rattle.record.proofs.OpenLaws.{step-not, step-schedule, step-load, step-spurious, step_other}
use Rattle.record.proofs.step_at.Goals as goal

pub returns-then-not-is_exploring : goal.returns-then-not-is_exploring
returns-then-not-is_exploring c = step-not _ _ _ c.is_exploring.ensures (not-true _ c.if-not-is_exploring.true-raw)

pub returns-in-1 : goal.returns-in-1
returns-in-1 c =
    step-schedule _ _ _ c.is_exploring.ensures (not-false _ c.if-not-is_exploring.false-raw) _ c.field-kind.ensures _ _ c.in-1.is c.step.ensures

pub returns-in-2 : goal.returns-in-2
returns-in-2 c =
    step-load _ _ _ c.is_exploring.ensures (not-false _ c.if-not-is_exploring.false-raw) _ c.field-kind.ensures _ _ c.in-2.is c.step-in-2.ensures

pub returns-in-3 : goal.returns-in-3
returns-in-3 c =
    step-spurious _ _ _ c.is_exploring.ensures (not-false _ c.if-not-is_exploring.false-raw) _ c.field-kind.ensures _ _ c.in-3.is c.step-in-3.ensures

pub returns-in_default : goal.returns-in_default
returns-in_default c =
    let others = c.in_default.in_default-own.rest in
    step_other _ _ _ c.is_exploring.ensures (not-false _ c.if-not-is_exploring.false-raw) _ c.field-kind.ensures _ _ others.0.0.1 others.0.1 others.1
