use borrow.Enum.Refused.{opened}
use Rattle.accesses.proofs.OpLaws.{load-within, rmw-within, others, load-done, rmw-done}
use Rattle.accesses.proofs.read.Goals as goal

pub load-requires : goal.load-requires
load-requires c =
    (c.requires.0, (load-within _ _ _ _ c.in-Load.is c.requires.2).0, c.requires.1)

pub rmw-requires : goal.rmw-requires
rmw-requires c =
    (c.requires.0, (rmw-within _ _ _ _ _ _ c.in-Rmw.is c.requires.2).0, c.requires.1)

pub returns-in-Load : goal.returns-in-Load
returns-in-Load c = load-done _ _ _ _ _ _ _ _ c.in-Load.is c.load.ensures

pub returns-in-Rmw : goal.returns-in-Rmw
returns-in-Rmw c = rmw-done _ _ _ _ _ _ _ _ _ _ c.in-Rmw.is c.rmw.ensures

pub returns-in_default : goal.returns-in_default
returns-in_default c = let args = c.args in (others args.op (opened c.in_default.in_default-own.keys3)).done _ args.thread args.slot
