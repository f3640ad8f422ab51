use Rattle.page.proofs.PageLaws.{pad-none, pad-put}
use Rattle.page.proofs.pad.Goals as goal

pub returns-then-end-at : goal.returns-then-end-at
returns-then-end-at c = pad-none _ _ _ _ c.min-end.ensures c.if-end-at.true

pub returns : goal.returns
returns c = pad-put _ _ _ _ _ c.told-page c.min-end.ensures c.if-end-at.false (c.fill.ensures.after (λ y e. e))
