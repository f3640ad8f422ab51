use Rattle.rules.specs.Cell.{mut_race, mut_tracked}
use Rattle.rules.specs.State.{mutated}
use Rattle.track.proofs.TrackLaws.{here, past, raced, clear}
use Rattle.track.proofs.track_unsync_mut.Goals as goal

pub returns-in_err-race_with : goal.returns-in_err-race_with
unfolding mut_race mut_tracked
returns-in_err-race_with c = raced _ (mutated c.args.cell) c.args.thread _ _ _ c.from_residual.ensures.1 (here _ _ _ _ c.in_err-race_with.ensures)

pub returns-in_err-race_with-2 : goal.returns-in_err-race_with-2
unfolding mut_race mut_tracked
returns-in_err-race_with-2 c = raced _ (mutated c.args.cell) c.args.thread _ _ _ c.from_residual-in_err-race_with-2.ensures.1 (past _ _ _ c.in_ok-race_with.ensures (here _ _ _ _ c.in_err-race_with-2.ensures))

pub returns-in_err-race_with-3 : goal.returns-in_err-race_with-3
unfolding mut_race mut_tracked
returns-in_err-race_with-3 c = raced _ (mutated c.args.cell) c.args.thread _ _ _ c.from_residual-in_err-race_with-3.ensures.1 (past _ _ _ c.in_ok-race_with.ensures (past _ _ _ c.in_ok-race_with-2.ensures (here _ _ _ _ c.in_err-race_with-3.ensures)))

pub returns-in_err-race_with-4 : goal.returns-in_err-race_with-4
unfolding mut_race mut_tracked
returns-in_err-race_with-4 c = raced _ (mutated c.args.cell) c.args.thread _ _ _ c.from_residual-in_err-race_with-4.ensures.1 (past _ _ _ c.in_ok-race_with.ensures (past _ _ _ c.in_ok-race_with-2.ensures (past _ _ _ c.in_ok-race_with-3.ensures c.in_err-race_with-4.ensures)))

pub returns : goal.returns
unfolding mut_race mut_tracked
returns c = clear _ (mutated c.args.cell) c.args.thread _ _ (past _ _ _ c.in_ok-race_with.ensures (past _ _ _ c.in_ok-race_with-2.ensures (past _ _ _ c.in_ok-race_with-3.ensures c.in_ok-race_with-4.ensures))) c.join_into.ensures
