use Rattle.table.proofs.Places.{room-made}
use Rattle.table.proofs.room_of.Goals as goal

pub returns : goal.returns
returns c =
    let args = c.args in
    room-made args.table.now args.rows args.row
    c.wide8.ensures.same
    c.wide8-2.ensures.same
    c.wide8-3.ensures.same
