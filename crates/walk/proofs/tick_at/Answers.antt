use Rattle.walk.proofs.TickLaws.{tick-takes}
use Rattle.walk.proofs.tick_at.Goals as goal

pub returns : goal.returns
returns c =
    let args = c.args in
    tick-takes args.at.cursor args.at.here c.next-event.result args.shape.now args.at.limits args.clocks.now args.marks.now args.values.now args.numbers.now _ _ _ _ args.path.now args.trace.now c.next-event.ensures c.requires.1.who c.take.result _ c.take.ensures
