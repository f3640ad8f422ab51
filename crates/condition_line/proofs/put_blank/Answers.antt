use native.Mathlib.Omega.{arith}
use Rattle.put.proofs.PutLaws.{puts_none, puts-are}
use Rattle.condition_line.proofs.UnitLaws.{blank_none, blank-one}
use Rattle.condition_line.proofs.put_blank.Goals as goal

pub returns-then-opened-byte : goal.returns-then-opened-byte
returns-then-opened-byte c =
    let a = c.args in
    puts-are _ _ _ _ _ _ (blank_none a.opened a.byte c.if-opened-byte.true) (puts_none _ _ (omega arith))

pub returns : goal.returns
returns c =
    let a = c.args in
    puts-are _ _ _ _ _ _ (blank-one a.opened a.byte c.if-opened-byte.false) c.put_byte.ensures
