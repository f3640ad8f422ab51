use Rattle.rules.specs.Token.{bytes_of}
use Rattle.limit.specs.Limits.{put_spent}
use Rattle.limit.proofs.put_spent.Goals as goal

pub returns : goal.returns
unfolding put_spent bytes_of
returns c = rw c.put_raise-to.ensures at c.put.ensures
