use Rattle.record.proofs.StepLaws.{visited-by, visited-nobody}
use Rattle.record.proofs.schedule.visit.Goals as goal

pub returns-in-Some : goal.returns-in-Some
returns-in-Some c = visited-by _ _ c.requires _ _ c.in-Some.ensures c.put.ensures

pub returns-in_default : goal.returns-in_default
returns-in_default c = visited-nobody _ _ c.requires c.in_default.ensures
