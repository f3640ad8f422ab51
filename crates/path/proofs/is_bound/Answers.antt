use mathlib.Core.Path.{◌∙◌, ap}
use Rattle.path.specs.Bounds.{reaches}
use Rattle.path.proofs.MarkLaws.{reaches-by}
use Rattle.path.proofs.is_bound.Goals as goal

pub returns : goal.returns
returns c = c.eq.ensures ∙ reaches-by c.args.bound c.field.result ∙ ap (reaches c.args.bound) c.field.ensures
