use Rattle.layout.specs.Tables.{state}
use Rattle.scheduling.proofs.ScheduleLaws.{chosen-impossible, chosen-moves, runs-within}
use Rattle.scheduling.proofs.switch.Goals as goal

pub returns-then-not-can_run : goal.returns-then-not-can_run
returns-then-not-can_run c =
    let args = c.args in
    λ marks values t k opcode m. chosen-impossible (state args.clocks.now marks values args.numbers.now) args.chosen args.branch _ c.can_run.ensures c.if-not-can_run.true-raw

pub choose-requires : goal.choose-requires
choose-requires c =
    let args = c.args in
    runs-within args.numbers.now args.chosen _ c.can_run.ensures c.if-not-can_run.false-raw

pub returns : goal.returns
returns c =
    let args = c.args in
    λ marks values t k opcode m. chosen-moves (state args.clocks.now marks values args.numbers.now) args.chosen args.branch _ c.can_run.ensures c.if-not-can_run.false-raw _ (c.choose.ensures marks values)
