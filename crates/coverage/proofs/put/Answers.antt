use Rattle.coverage.specs.Says.{put_covered}
use Rattle.coverage.proofs.put.Goals as goal

pub returns : goal.returns
unfolding put_covered
returns c =
    rw (c.put_bounded-to.ensures, c.put_tried-to.ensures) at c.put_old_stores.ensures
