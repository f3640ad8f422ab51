use Rattle.start.proofs.StartLaws.{plain-as}
use Rattle.start.proofs.make_plain.Goals as goal

pub returns : goal.returns
returns c =
    let args = c.args in
    λ marks numbers e. plain-as args.table.now args.clocks.now _ marks args.values.now numbers args.cells args.plain _ c.track_write.ensures.left c.start_value.ensures e
