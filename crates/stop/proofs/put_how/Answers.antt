use Rattle.rules.specs.Token.{bytes_of}
use Rattle.stop.specs.Stops.{put_how}
use Rattle.stop.proofs.put_how.Goals as goal

pub returns-then-limited : goal.returns-then-limited
unfolding put_how bytes_of
returns-then-limited c = rw c.if-limited.true c.put.ensures

pub returns : goal.returns
unfolding put_how bytes_of
returns c = rw c.if-limited.false c.put-2.ensures
