use Rattle.layout.proofs.SlotLaws.{oldest-few, oldest-all}
use Rattle.layout.proofs.slots.kth_oldest.Goals as goal

pub returns-then-count-lt-HISTORY : goal.returns-then-count-lt-HISTORY
returns-then-count-lt-HISTORY c = oldest-few _ _ c.requires c.if-count-lt-HISTORY.true

pub returns : goal.returns
returns c = oldest-all c.args.count c.args.k c.requires c.if-count-lt-HISTORY.false
