use Rattle.report.proofs.RecordLaws.{of-five}
use Rattle.layout.specs.Tables.{state}
use Rattle.report.proofs.threads.summaries.Goals as goal

pub returns : goal.returns
returns c =
    let args = c.args in
    λ marks values.
    of-five (state args.clocks.now marks values args.numbers.now) _ _ _ _ _
    (c.summary-a.ensures marks values)
    (c.summary-b.ensures marks values)
    (c.summary-c.ensures marks values)
    (c.summary-d.ensures marks values)
    (c.summary-e.ensures marks values)
