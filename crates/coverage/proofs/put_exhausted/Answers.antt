use Rattle.rules.specs.Token.{bytes_of}
use Rattle.coverage.specs.Says.{put_exhausted}
use Rattle.coverage.proofs.put_exhausted.Goals as goal

pub returns-in_default : goal.returns-in_default
unfolding put_exhausted bytes_of
returns-in_default c =
    rw c.in_default.is (rw c.put_first-to.ensures at c.put.ensures)

pub returns : goal.returns
unfolding put_exhausted bytes_of
returns c = rw c.in-Some.is c.put_first.ensures
