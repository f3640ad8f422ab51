use Rattle.steps.proofs.HoldLaws.{stored_at}
use Rattle.steps.proofs.held.store.Goals as goal

pub returns : goal.returns
returns c =
    stored_at _ _ _ _ c.requires c.store_at-at.ensures c.next_slot.ensures c.one_more.ensures
