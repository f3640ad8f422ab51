use Rattle.rules.specs.Token.{bytes_of}
use Rattle.listing.proofs.StepLaws.{between-some, between_none}
use Rattle.listing.proofs.put_between.Goals as goal

pub returns-then-n : goal.returns-then-n
unfolding bytes_of
returns-then-n c = between-some _ _ _ c.if-n.true c.fill.ensures

pub returns : goal.returns
returns c = between_none _ _ c.if-n.false
