use Rattle.rules.specs.Token.{bytes_of}
use Rattle.bad_row.proofs.words.put_field.Goals as goal

pub returns-in-Opcode : goal.returns-in-Opcode
unfolding bytes_of
returns-in-Opcode c = rw c.in-Opcode.is c.put.ensures

pub returns-in-Object : goal.returns-in-Object
returns-in-Object c = rw c.in-Object.is c.put_object.ensures

pub returns-in-Order : goal.returns-in-Order
unfolding bytes_of
returns-in-Order c = rw c.in-Order.is c.put-in-Order.ensures

pub returns-in-Kind : goal.returns-in-Kind
unfolding bytes_of
returns-in-Kind c = rw c.in-Kind.is c.put-in-Kind.ensures

pub returns-in-Failure : goal.returns-in-Failure
unfolding bytes_of
returns-in-Failure c = rw c.in-Failure.is c.put-in-Failure.ensures

pub returns-in-Register : goal.returns-in-Register
unfolding bytes_of
returns-in-Register c = rw c.in-Register.is c.put-in-Register.ensures

pub returns-in-Target : goal.returns-in-Target
unfolding bytes_of
returns-in-Target c = rw c.in-Target.is c.put-in-Target.ensures

pub returns-in-A : goal.returns-in-A
unfolding bytes_of
returns-in-A c = rw c.in-A.is c.put-in-A.ensures

pub returns-in-B : goal.returns-in-B
unfolding bytes_of
returns-in-B c = rw c.in-B.is c.put-in-B.ensures
