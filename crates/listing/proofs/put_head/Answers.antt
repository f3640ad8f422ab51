use Rattle.rules.specs.Token.{bytes_of}
use Rattle.listing.proofs.StepLaws.{head-put}
use Rattle.listing.proofs.put_head.Goals as goal

pub returns : goal.returns
unfolding bytes_of
returns c =
    head-put _ _ _ _ _ _ _ _ c.rows_end-end.ensures.0 c.put-to.ensures c.pad-to.ensures c.put-to-2.ensures c.pad-to-2.ensures c.put.ensures
