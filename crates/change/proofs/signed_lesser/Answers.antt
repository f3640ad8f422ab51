use Rattle.change.proofs.ChangeLaws.{lesser-own, lesser-other}
use Rattle.change.proofs.signed_lesser.Goals as goal

pub returns-then-signed_less : goal.returns-then-signed_less
returns-then-signed_less c = lesser-own _ _ _ _ c.signed_less.ensures c.if-signed_less.true

pub returns-else-signed_less : goal.returns-else-signed_less
returns-else-signed_less c = lesser-other _ _ _ _ c.signed_less.ensures c.if-signed_less.false
