use Rattle.layout.specs.Tables.{state}
use Rattle.report.proofs.RecordLaws.{finished-so}
use Rattle.report.proofs.finished.Goals as goal

pub returns : goal.returns
returns c =
    let args = c.args in
    λ marks values.
    finished-so args.answer args.counts.begun args.counts.opened args.counts.still_open c.wide16-rows.result c.summaries-threads.result
    (state args.clocks.now marks values args.numbers.now)
    c.wide16-rows.ensures.same
    (c.summaries-threads.ensures marks values)
