use Rattle.layout.specs.Tables.{state}
use Rattle.scheduling.proofs.ScheduleLaws.{nobody-ends, nobody-impossible, nobody-deadlock}
use Rattle.scheduling.proofs.nobody.Goals as goal

pub returns-then-all_ended : goal.returns-then-all_ended
returns-then-all_ended c =
    λ clocks marks values t k opcode at m. nobody-ends (state clocks marks values c.args.numbers.now) _ c.all_ended.ensures at c.if-all_ended.true

pub returns-then-some_can_run : goal.returns-then-some_can_run
returns-then-some_can_run c =
    λ clocks marks values t k opcode at m.
    nobody-impossible (state clocks marks values c.args.numbers.now) _ c.all_ended.ensures at c.if-all_ended.false _ c.some_can_run.ensures c.if-some_can_run.true

pub returns : goal.returns
returns c =
    λ clocks marks values t k opcode at m.
    nobody-deadlock (state clocks marks values c.args.numbers.now) _ c.all_ended.ensures at c.if-all_ended.false _ c.some_can_run.ensures c.if-some_can_run.false
