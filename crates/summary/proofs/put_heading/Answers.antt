use Rattle.rules.specs.Token.{bytes_of}
use Rattle.summary.proofs.put_heading.Goals as goal

pub returns : goal.returns
unfolding bytes_of
returns c = c.put.ensures
