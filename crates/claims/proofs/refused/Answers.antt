use mathlib.Core.Path.{ap}
use Rattle.rules.specs.Text.{Claimed}
use Rattle.claims.proofs.refused.Goals as goal

pub returns : goal.returns
returns c = ap (λ (k : Claimed c.args.lines). k.rest) c.claimed.ensures.is
