use Rattle.rules.specs.Token.{bytes_of}
use Rattle.coverage.specs.Says.{put_first}
use Rattle.coverage.proofs.put_first.Goals as goal

pub returns : goal.returns
unfolding put_first bytes_of
returns c =
    rw (c.put_executions-to.ensures, c.fill-to.ensures) at c.put.ensures
