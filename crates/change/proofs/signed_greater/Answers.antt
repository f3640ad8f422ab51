use Rattle.change.proofs.ChangeLaws.{greater-other, greater-own}
use Rattle.change.proofs.signed_greater.Goals as goal

pub returns-then-signed_less : goal.returns-then-signed_less
returns-then-signed_less c = greater-other _ _ _ _ c.signed_less.ensures c.if-signed_less.true

pub returns-else-signed_less : goal.returns-else-signed_less
returns-else-signed_less c = greater-own _ _ _ _ c.signed_less.ensures c.if-signed_less.false
