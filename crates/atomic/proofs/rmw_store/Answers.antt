use Rattle.atomic.proofs.AccessLaws.{passed_up, then-raced, then-stored}
use Rattle.rules.specs.State.{store_at}
use Rattle.atomic.proofs.rmw_store.Goals as goal

pub returns-in_err-track_store : goal.returns-in_err-track_store
returns-in_err-track_store c =
    let args = c.args in
    passed_up _ _ _ _ c.from_residual.ensures.1
    (then-raced
    args.clocks.now
    args.marks.now
    args.values.now
    args.numbers.now
    args.access.thread
    args.access.cell
    (store_at args.access.cell args.slot)
    args.prev
    args.next
    args.access.order
    _
    c.track_store.ensures.left
    _
    _
    c.in_err-track_store.ensures.answer)

pub returns : goal.returns
returns c =
    let args = c.args in
    then-stored
    args.clocks.now
    args.marks.now
    args.values.now
    args.numbers.now
    args.access.thread
    args.access.cell
    (store_at args.access.cell args.slot)
    args.prev
    args.next
    args.access.order
    _
    c.track_store.ensures.left
    c.in_ok-track_store.ensures.answer
    _
    c.sync_load.ensures
    _
    c.store_at.ensures
    _
    c.store.ensures
