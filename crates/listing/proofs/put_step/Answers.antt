use Rattle.rules.specs.Token.{bytes_of}
use Rattle.listing.proofs.StepLaws.{step-put}
use Rattle.listing.proofs.put_step.Goals as goal

pub returns : goal.returns
unfolding bytes_of
returns c =
    step-put _ _ _ _ _ _ _ _ _ _ _ _ _ _ _ c.rows_end-end.ensures.0 c.put_numbers-to.ensures c.pad-to.ensures c.put_row-to.ensures c.put_slots-to.ensures c.pad-to-2.ensures c.of_step.ensures c.put-to.ensures c.put.ensures
