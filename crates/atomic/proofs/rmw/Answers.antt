use Rattle.change.specs.Changes.{change_meant}
use Rattle.atomic.proofs.AccessLaws.{passed_up, rmw-raced, rmw-failed, rmw-succeeded}
use Rattle.atomic.proofs.rmw.Goals as goal

pub returns-in_err-track_load : goal.returns-in_err-track_load
returns-in_err-track_load c =
    let args = c.args in
    passed_up _ _ _ _ c.from_residual.ensures.1
    (rmw-raced
    args.clocks.now
    args.marks.now
    args.values.now
    args.numbers.now
    args.access.thread
    args.access.cell
    args.slot
    _
    c.track_load.ensures.left
    _
    _
    c.in_err-track_load.ensures.answer
    (change_meant args.change)
    args.access.order
    args.failure)

pub returns-in_default : goal.returns-in_default
returns-in_default c =
    let args = c.args in
    rmw-failed
    args.clocks.now
    args.marks.now
    args.values.now
    args.numbers.now
    args.access.thread
    args.access.cell
    args.slot
    _
    c.track_load.ensures.left
    c.in_ok-track_load.ensures.answer
    _
    c.store_at.ensures
    _
    c.apply_load_coherence.ensures
    _
    c.touch.ensures
    (change_meant args.change)
    args.access.order
    args.failure
    c.in_default.ensures
    _
    c.sync_load.ensures

pub returns : goal.returns
returns c =
    let args = c.args in
    rmw-succeeded
    args.clocks.now
    args.marks.now
    args.values.now
    args.numbers.now
    args.access.thread
    args.access.cell
    args.slot
    _
    c.track_load.ensures.left
    c.in_ok-track_load.ensures.answer
    _
    c.store_at.ensures
    _
    c.apply_load_coherence.ensures
    _
    c.touch.ensures
    (change_meant args.change)
    args.access.order
    args.failure
    _
    c.in-Some.ensures
    _
    c.rmw_store.ensures
