use Rattle.limit.specs.Limits.{put_limit}
use Rattle.limit.proofs.put.Goals as goal

pub returns : goal.returns
unfolding put_limit
returns c =
    rw (c.put_to_do-to.ensures, c.put_reached-to.ensures) at c.put_spin.ensures
