use Rattle.change.specs.Changes.{change_meant}
use Rattle.atomic.proofs.NewestLaws.{newest-at, mut-raced, mut-failed, mut-changed}
use Rattle.atomic.proofs.with_mut.Goals as goal

pub returns-in_err-track_unsync_mut : goal.returns-in_err-track_unsync_mut
returns-in_err-track_unsync_mut c =
    let args = c.args in
    mut-raced _ _ args.numbers.now args.thread args.cell (change_meant args.change) _ c.track_unsync_mut.ensures.left _ _ c.from_residual.ensures.1
    c.in_err-track_unsync_mut.ensures.answer

pub returns-in_default : goal.returns-in_default
returns-in_default c =
    let args = c.args in
    mut-failed _ _ _ args.thread args.cell (change_meant args.change) _ c.track_unsync_mut.ensures.left
    c.in_ok-track_unsync_mut.ensures.answer _
    (newest-at args.numbers.now args.cell _ _ c.newest-slot.ensures.is c.store_at-at.ensures)
    c.in_default.ensures

pub returns : goal.returns
returns c =
    let args = c.args in
    mut-changed _ _ _ args.thread args.cell (change_meant args.change) _ c.track_unsync_mut.ensures.left
    c.in_ok-track_unsync_mut.ensures.answer _
    (newest-at args.numbers.now args.cell _ _ c.newest-slot.ensures.is c.store_at-at.ensures)
    _ c.in-Some.ensures
