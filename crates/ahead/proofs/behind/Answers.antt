use Rattle.ahead.proofs.AheadLaws.{behind-feed, behind-on}
use Rattle.ahead.proofs.behind.Goals as goal

pub returns-then-byte-eq10 : goal.returns-then-byte-eq10
returns-then-byte-eq10 c = behind-feed _ _ _ c.if-byte-eq10.true

pub returns : goal.returns
returns c = behind-on _ _ _ c.if-byte-eq10.false
