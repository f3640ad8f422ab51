use Rattle.decode.proofs.fields.is_failure_order.Goals as goal

pub returns-then-kind : goal.returns-then-kind
returns-then-kind c = rw c.if-kind.true c.is_load_order.ensures

pub returns : goal.returns
returns c = rw c.if-kind.false
