use Rattle.bad_row.specs.Words.{field_value}
use Rattle.bad_row.proofs.words.field_value.Goals as goal

pub returns-in-Opcode : goal.returns-in-Opcode
unfolding field_value
returns-in-Opcode c = rw c.in-Opcode.is

pub returns-in-Object : goal.returns-in-Object
unfolding field_value
returns-in-Object c = rw c.in-Object.is

pub returns-in-Order : goal.returns-in-Order
unfolding field_value
returns-in-Order c = rw c.in-Order.is

pub returns-in-Kind : goal.returns-in-Kind
unfolding field_value
returns-in-Kind c = rw c.in-Kind.is

pub returns-in-Failure : goal.returns-in-Failure
unfolding field_value
returns-in-Failure c = rw c.in-Failure.is

pub returns-in-Register : goal.returns-in-Register
unfolding field_value
returns-in-Register c = rw c.in-Register.is

pub returns-in-Target : goal.returns-in-Target
unfolding field_value
returns-in-Target c = rw c.in-Target.is

pub returns-in-A : goal.returns-in-A
unfolding field_value
returns-in-A c = rw c.in-A.is

pub returns-in-B : goal.returns-in-B
unfolding field_value
returns-in-B c = rw c.in-B.is
