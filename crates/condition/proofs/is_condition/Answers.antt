use Rattle.condition.proofs.WholeLaws.{none-fine, long-bad, bad-bad, end-fine}
use Rattle.condition.proofs.is_condition.Goals as goal

pub returns-then-bytes-eq0 : goal.returns-then-bytes-eq0
returns-then-bytes-eq0 c = none-fine _ c.args.bytes.now c.if-bytes-eq0.true

pub returns-then-bytes-gt-CONDITION_BYTES : goal.returns-then-bytes-gt-CONDITION_BYTES
returns-then-bytes-gt-CONDITION_BYTES c = long-bad _ _ c.if-bytes-gt-CONDITION_BYTES.true

pub returns-in-Err : goal.returns-in-Err
returns-in-Err c =
    bad-bad _ c.args.bytes.now c.if-bytes-gt-CONDITION_BYTES.false c.if-bytes-eq0.false c.first_bad.ensures c.in-Err.is

pub returns-in-Ok : goal.returns-in-Ok
returns-in-Ok c =
    end-fine _ c.args.bytes.now c.if-bytes-gt-CONDITION_BYTES.false c.if-bytes-eq0.false c.first_bad.ensures c.in-Ok.is
