use borrow.Enum.Refused.{opened}
use Rattle.report.proofs.CaseLaws.{no-fault, raceless, raced}
use Rattle.report.proofs.race_kind.Goals as goal

pub returns-in_default : goal.returns-in_default
returns-in_default c = (no-fault c.args.answer (opened c.in_default.in_default-own.keys2)).0

pub returns-in_default-fault : goal.returns-in_default-fault
returns-in_default-fault c = (raceless _ _ _ c.in-Stopped.is (opened c.in_default-fault.in_default-fault-own.keys2)).0

pub returns : goal.returns
returns c = (raced _ _ _ c.in-Stopped.is c.in-Race.is).0
