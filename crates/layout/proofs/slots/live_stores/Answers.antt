use Rattle.layout.proofs.SlotLaws.{live-few, live_all}
use Rattle.layout.proofs.slots.live_stores.Goals as goal

pub returns-then-count-lt-HISTORY : goal.returns-then-count-lt-HISTORY
returns-then-count-lt-HISTORY c = live-few _ c.if-count-lt-HISTORY.true

pub returns-else-count-lt-HISTORY : goal.returns-else-count-lt-HISTORY
returns-else-count-lt-HISTORY c = live_all _ c.if-count-lt-HISTORY.false
