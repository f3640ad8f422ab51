use Rattle.atomic.proofs.AccessLaws.{stored}
use Rattle.atomic.proofs.store.Goals as goal

pub returns : goal.returns
returns c =
    let args = c.args in
    stored
    args.clocks.now
    args.marks.now
    args.values.now
    args.numbers.now
    args.access.thread
    args.access.cell
    args.sync
    args.value
    args.access.order
    _
    _
    _
    _
    _
    _
    _
    c.index-slot.ensures.is
    c.store_at-at.ensures
    c.one_more.ensures
    c.store_order-modification_order.ensures
    c.sync_store-sync.ensures
    c.fresh_row.ensures
    c.is_seq_cst.ensures
