use Rattle.rules.specs.Cell.{unsync_load_race, unsync_load_tracked}
use Rattle.rules.specs.State.{unsync_loaded}
use Rattle.track.proofs.TrackLaws.{here, past, raced, clear}
use Rattle.track.proofs.track_unsync_load.Goals as goal

pub returns-in_err-race_with : goal.returns-in_err-race_with
unfolding unsync_load_race unsync_load_tracked
returns-in_err-race_with c = raced _ (unsync_loaded c.args.cell) c.args.thread _ _ _ c.from_residual.ensures.1 (here _ _ _ _ c.in_err-race_with.ensures)

pub returns-in_err-race_with-2 : goal.returns-in_err-race_with-2
unfolding unsync_load_race unsync_load_tracked
returns-in_err-race_with-2 c = raced _ (unsync_loaded c.args.cell) c.args.thread _ _ _ c.from_residual-in_err-race_with-2.ensures.1 (past _ _ _ c.in_ok-race_with.ensures c.in_err-race_with-2.ensures)

pub returns : goal.returns
unfolding unsync_load_race unsync_load_tracked
returns c = clear _ (unsync_loaded c.args.cell) c.args.thread _ _ (past _ _ _ c.in_ok-race_with.ensures c.in_ok-race_with-2.ensures) c.join_into.ensures
