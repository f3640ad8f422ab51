use Rattle.rules.specs.Token.{bytes_of}
use Rattle.limit.proofs.put_budget.Goals as goal

pub returns : goal.returns
unfolding bytes_of
returns c = c.fill.ensures
