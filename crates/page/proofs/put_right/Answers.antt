use Rattle.page.proofs.PageLaws.{right-at}
use Rattle.page.proofs.put_right.Goals as goal

pub returns : goal.returns
returns c =
    right-at _ _ _ _ _ _ _ c.count.ensures c.saturating_sub.ensures c.pad-to.ensures c.put_number.ensures
