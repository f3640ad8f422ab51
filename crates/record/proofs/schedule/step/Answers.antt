use Rattle.record.proofs.StepLaws.{turned_by, turned-nobody}
use Rattle.record.proofs.schedule.step.Goals as goal

pub returns-in_default : goal.returns-in_default
returns-in_default c = turned-nobody _ _ c.requires _ c.visit.ensures c.in_default.ensures

pub returns : goal.returns
returns c = turned_by _ _ c.requires _ c.visit.ensures _ _ c.in-Some.ensures c.put.ensures
