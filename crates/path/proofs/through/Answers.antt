use Rattle.path.proofs.WalkLaws.{through-all, through-some}
use Rattle.path.proofs.through.Goals as goal

pub returns-then-records-point : goal.returns-then-records-point
returns-then-records-point c = through-all _ _ c.if-records-point.true

pub returns : goal.returns
returns c = through-some _ _ c.if-records-point.false
