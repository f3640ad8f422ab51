use borrow.Enum.Refused.{opened}
use Rattle.rules.specs.Token.{bytes_of}
use Rattle.bad_row.proofs.WordLaws.{cell-named, plain-named, thread-named, none-named}
use Rattle.bad_row.proofs.words.put_object.Goals as goal

pub returns-in_default : goal.returns-in_default
unfolding bytes_of
returns-in_default c = rw (none-named c.args.opcode c.in_default.field-0 (cc)) c.put.ensures

pub returns-in-AnyCell : goal.returns-in-AnyCell
unfolding bytes_of
returns-in-AnyCell c = rw (cell-named c.args.opcode (cc)) c.put-in-AnyCell.ensures

pub returns-in-AnyPlain : goal.returns-in-AnyPlain
unfolding bytes_of
returns-in-AnyPlain c = rw (plain-named c.args.opcode (cc)) c.put-in-AnyPlain.ensures

pub returns-in_default-may : goal.returns-in_default-may
unfolding bytes_of
returns-in_default-may c =
    rw (thread-named c.args.opcode c.in-Ok.may (cc) (opened c.in_default-may.in_default-may-own.keys3)) c.put-in_default-may.ensures
