use Rattle.fence.proofs.FenceLaws.{then-released}
use Rattle.fence.proofs.fence_acqrel.Goals as goal

pub returns : goal.returns
returns c =
    then-released _ _ c.args.thread c.fence_acq.ensures _ c.fence_rel.ensures
