use mathlib.Core.Path.{◌∙◌}
use Rattle.exports.proofs.EntryLaws.{entered-bound, entered-exploring, entered-report, entered-run, explored-so}
use borrow.Author.Rules.{rules}
use Rattle.exports.proofs.enter.Goals as goal

pub returns-then-given-gt-NO_BOUND : goal.returns-then-given-gt-NO_BOUND
returns-then-given-gt-NO_BOUND c = entered-bound _ _ _ _ _ _ _ _ _ _ c.if-given-gt-NO_BOUND.true

pub returns-then-given-gt1 : goal.returns-then-given-gt1
returns-then-given-gt1 c = entered-exploring _ _ _ _ _ _ _ _ _ _ c.if-given-gt-NO_BOUND.false c.if-given-gt1.true

pub returns-then-report-ne-REPORT_NUMBERS : goal.returns-then-report-ne-REPORT_NUMBERS
returns-then-report-ne-REPORT_NUMBERS c = entered-report _ _ _ _ _ _ _ _ _ _ c.if-given-gt-NO_BOUND.false c.if-given-gt1.false c.if-report-ne-REPORT_NUMBERS.true

pub returns : goal.returns
returns c =
    let a = c.args in
    entered-run a.table.now a.condition.now a.given.branches a.given.operations a.given.executions a.given.bound a.given.exploring a.path.now a.trace.now a.report.now
    c.if-given-gt-NO_BOUND.false c.if-given-gt1.false c.if-report-ne-REPORT_NUMBERS.false c.explore-done.result _ _
    (explored-so a.table.now a.condition.now a.path.now a.trace.now a.given.branches a.given.operations a.given.executions a.given.bound a.given.exploring c.bound_of-bound.result c.bound_of-bound.ensures c.explore-done.ensures)
    c.number-number.ensures (c.copy_from_slice.ensures.after ∙ c.of_report-all.ensures)
