use Rattle.rules.specs.Token.{bytes_of}
use Rattle.summary.proofs.put_legend.Goals as goal

pub returns : goal.returns
unfolding bytes_of
returns c =
    rw (c.put-to-2.ensures, c.put-to.ensures) at c.put.ensures
