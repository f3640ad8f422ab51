use Rattle.condition.proofs.WholeLaws.{none-holds, bad-fails, read-holds}
use Rattle.condition.proofs.holds.Goals as goal

pub returns-then-bytes-eq0 : goal.returns-then-bytes-eq0
returns-then-bytes-eq0 c = none-holds _ _ c.args.bytes.now c.if-bytes-eq0.true

pub returns-in-Err : goal.returns-in-Err
returns-in-Err c =
    let g = c.args in
    bad-fails g.threads _ g.bytes.now c.if-bytes-eq0.false c.condition.ensures c.in-Err.is

pub returns-in-Ok : goal.returns-in-Ok
returns-in-Ok c =
    let g = c.args in
    read-holds g.threads _ g.bytes.now c.if-bytes-eq0.false c.condition.ensures c.in-Ok.is
