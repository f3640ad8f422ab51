use Rattle.spin.proofs.LoopLaws.{same_from}
use Rattle.spin.proofs.same_row.Goals as goal

pub returns : goal.returns
returns c =
    same_from c.thread.ensures c.thread-2.ensures c.row.ensures c.row-2.ensures
