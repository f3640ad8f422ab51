use Rattle.fence.proofs.FenceLaws.{then-both}
use Rattle.fence.proofs.fence_seqcst.Goals as goal

pub returns : goal.returns
returns c =
    then-both _ _ c.args.thread c.fence_acqrel.ensures _ _ c.join_into.ensures c.join_into-2.ensures
