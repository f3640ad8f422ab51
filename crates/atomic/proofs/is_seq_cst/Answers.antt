use Rattle.atomic.proofs.AccessLaws.{flag-set, flag-clear}
use Rattle.atomic.proofs.is_seq_cst.Goals as goal

pub returns-then-order-eq-SEQ_CST : goal.returns-then-order-eq-SEQ_CST
returns-then-order-eq-SEQ_CST c = flag-set _ c.if-order-eq-SEQ_CST.true

pub returns-else-order-eq-SEQ_CST : goal.returns-else-order-eq-SEQ_CST
returns-else-order-eq-SEQ_CST c = flag-clear _ c.if-order-eq-SEQ_CST.false
