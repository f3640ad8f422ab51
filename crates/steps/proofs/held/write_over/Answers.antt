use Rattle.steps.proofs.HoldLaws.{over-at}
use Rattle.steps.proofs.held.write_over.Goals as goal

pub returns : goal.returns
returns c =
    over-at _ _ _ _ c.requires c.store_at-at.ensures c.newest_slot.ensures
