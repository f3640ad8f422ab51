use Rattle.record.proofs.ThreadLaws.{prev-put}
use Rattle.record.proofs.schedule.put_prev.Goals as goal

pub returns : goal.returns
returns c =
    prev-put c.args.path.now c.args.at _ _ _ _ c.put.ensures c.put-2.ensures c.unwrap_or-position.ensures
