use borrow.Enum.Refused.{opened}
use Rattle.accesses.proofs.OpLaws.{load_read, rmw-read, other-read}
use Rattle.accesses.proofs.to_read.Goals as goal

pub returns-in-Load : goal.returns-in-Load
returns-in-Load c = load_read _ _ _ _ c.in-Load.is c.requires

pub returns-in-Rmw : goal.returns-in-Rmw
returns-in-Rmw c = rmw-read _ _ _ _ _ _ c.in-Rmw.is c.requires

pub returns-in_default : goal.returns-in_default
returns-in_default c = other-read c.args.op (opened c.in_default.in_default-own.keys3)
