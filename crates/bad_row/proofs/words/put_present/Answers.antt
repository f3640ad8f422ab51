use Rattle.rules.specs.Token.{bytes_of}
use Rattle.bad_row.proofs.words.put_present.Goals as goal

pub returns : goal.returns
unfolding bytes_of
returns c = c.fill.ensures
