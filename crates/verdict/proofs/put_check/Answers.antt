use Rattle.rules.specs.Token.{bytes_of}
use Rattle.verdict.proofs.put_check.Goals as goal

pub returns : goal.returns
unfolding bytes_of
returns c =
    rw (c.put_wanted-to.ensures, c.fill-to.ensures) at c.put.ensures
