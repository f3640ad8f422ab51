use Rattle.report.proofs.RecordLaws.{summary-absent, summary-present}
use mathlib.Core.Path.{refl}
use Rattle.report.proofs.threads.summary.Goals as goal

pub returns-then-state-eq-ABSENT : goal.returns-then-state-eq-ABSENT
returns-then-state-eq-ABSENT c =
    let args = c.args in
    summary-absent args.clocks.now args.numbers.now args.thread _ c.if-state-eq-ABSENT.true c.absent.ensures

pub returns : goal.returns
returns c =
    let args = c.args in
    summary-present args.clocks.now args.numbers.now args.thread _ c.if-state-eq-ABSENT.false refl refl refl c.version.ensures
