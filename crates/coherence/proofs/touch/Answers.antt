use Rattle.coherence.proofs.TouchLaws.{touch-again, touch-first}
use Rattle.coherence.proofs.touch.Goals as goal

pub returns-then-row-thread : goal.returns-then-row-thread
returns-then-row-thread c = touch-again _ _ _ _ _ c.if-row-thread.true

pub returns : goal.returns
returns c = touch-first _ _ _ _ _ _ c.touched_row.ensures
