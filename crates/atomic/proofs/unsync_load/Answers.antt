use Rattle.atomic.proofs.AccessLaws.{passed_up}
use Rattle.atomic.proofs.NewestLaws.{newest-at, unsync-raced, unsync-done}
use Rattle.atomic.proofs.unsync_load.Goals as goal

pub returns-in_err-track_unsync_load : goal.returns-in_err-track_unsync_load
returns-in_err-track_unsync_load c =
    let args = c.args in
    λ marks.
    passed_up _ _ _ _ c.from_residual.ensures.1
    (unsync-raced _ args.values.now args.numbers.now args.thread args.cell marks _ c.track_unsync_load.ensures.left _ _
    c.in_err-track_unsync_load.ensures.answer)

pub returns : goal.returns
returns c =
    let args = c.args in
    λ marks.
    unsync-done _ args.values.now args.numbers.now args.thread args.cell marks _ c.track_unsync_load.ensures.left
    c.in_ok-track_unsync_load.ensures.answer _
    (newest-at args.numbers.now args.cell _ _ c.newest-slot.ensures.is c.store_at.ensures)
