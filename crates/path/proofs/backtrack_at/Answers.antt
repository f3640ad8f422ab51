use Rattle.path.proofs.MarkLaws.{marks-by, bound_by}
use Rattle.path.proofs.backtrack_at.Goals as goal

pub returns-then-is_bound : goal.returns-then-is_bound
returns-then-is_bound c =
    bound_by _ _ c.args.bound c.args.thread _ c.is_bound.ensures c.if-is_bound.true

pub returns : goal.returns
returns c =
    marks-by _ _ c.args.bound c.args.thread _ c.is_bound.ensures c.if-is_bound.false _ _ c.backtrack.ensures
