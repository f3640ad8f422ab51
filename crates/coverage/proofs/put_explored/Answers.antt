use Rattle.rules.specs.Token.{bytes_of}
use Rattle.coverage.specs.Says.{put_explored}
use Rattle.coverage.proofs.put_explored.Goals as goal

pub returns-in_default : goal.returns-in_default
unfolding put_explored
returns-in_default c = rw c.in_default.is c.put_exhausted.ensures

pub returns : goal.returns
unfolding put_explored bytes_of
returns c =
    rw c.in-Some.is (rw c.put_first-to.ensures at c.fill.ensures)
