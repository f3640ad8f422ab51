use Rattle.record.proofs.MarkLaws.{explore-here, explore-not}
use Rattle.record.proofs.schedule.explore.Goals as goal

pub returns-then-field-eq-SKIP : goal.returns-then-field-eq-SKIP
returns-then-field-eq-SKIP c =
    explore-here _ _ c.requires.0 _ _ c.requires.1 c.field.ensures c.if-field-eq-SKIP.true _ c.put.ensures

pub returns : goal.returns
returns c =
    explore-not _ _ c.requires.0 _ _ c.requires.1 c.field.ensures c.if-field-eq-SKIP.false
