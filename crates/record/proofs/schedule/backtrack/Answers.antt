use Rattle.record.proofs.MarkLaws.{marks-none, marks-all, marks-one}
use Rattle.record.proofs.schedule.backtrack.Goals as goal

pub returns-then-thread-ge-MAX_THREADS : goal.returns-then-thread-ge-MAX_THREADS
returns-then-thread-ge-MAX_THREADS c = marks-none _ _ c.requires _ c.if-thread-ge-MAX_THREADS.true

pub returns-then-field-eq-DISABLED : goal.returns-then-field-eq-DISABLED
returns-then-field-eq-DISABLED c =
    marks-all _ _ c.requires _ _ c.if-thread-ge-MAX_THREADS.false c.field.ensures c.if-field-eq-DISABLED.true _ _ c.explore_all.ensures

pub returns : goal.returns
returns c =
    marks-one _ _ c.requires _ _ c.if-thread-ge-MAX_THREADS.false c.field.ensures c.if-field-eq-DISABLED.false _ _ c.explore.ensures
