use native.Mathlib.Omega.{arith}
use Rattle.rules.specs.Token.{bytes_of}
use Rattle.put.proofs.PutLaws.{puts_none, puts_then, puts-are}
use Rattle.condition_line.proofs.UnitLaws.{condition-none, condition-some}
use Rattle.condition_line.proofs.put_condition.Goals as goal

pub returns-then-condition-eq0 : goal.returns-then-condition-eq0
returns-then-condition-eq0 c = puts-are _ _ _ _ _ _ (condition-none c.args.condition.now c.if-condition-eq0.true) (puts_none _ _ (omega arith))

pub returns : goal.returns
unfolding bytes_of
returns c =
    puts-are _ _ _ _ _ _ (condition-some c.args.condition.now c.if-condition-eq0.false)
    (puts_then _ _ _ _ _ _ _ _ (omega arith) c.put_bytes-first.ensures (puts_then _ _ _ _ _ _ _ _ (omega arith) c.put_units-behind.ensures c.put_byte.ensures))
