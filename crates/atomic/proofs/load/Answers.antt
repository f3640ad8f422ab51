use Rattle.atomic.proofs.AccessLaws.{passed_up, load-raced, load-done}
use Rattle.atomic.proofs.load.Goals as goal

pub returns-in_err-track_load : goal.returns-in_err-track_load
returns-in_err-track_load c =
    let args = c.args in
    passed_up _ _ _ _ c.from_residual.ensures.1
    (load-raced
    args.clocks.now
    args.marks.now
    args.values.now
    args.numbers.now
    args.access.thread
    args.access.cell
    args.slot
    _
    c.track_load.ensures.left
    _
    _
    c.in_err-track_load.ensures.answer
    args.access.order)

pub returns : goal.returns
returns c =
    let args = c.args in
    load-done
    args.clocks.now
    args.marks.now
    args.values.now
    args.numbers.now
    args.access.thread
    args.access.cell
    args.slot
    _
    c.track_load.ensures.left
    c.in_ok-track_load.ensures.answer
    _
    c.store_at.ensures
    _
    c.apply_load_coherence.ensures
    _
    c.touch.ensures
    args.access.order
    _
    c.sync_load.ensures
