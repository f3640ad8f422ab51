use Rattle.rules.specs.Cell.{load_race, load_tracked}
use Rattle.rules.specs.State.{loaded}
use Rattle.track.proofs.TrackLaws.{raced, clear}
use Rattle.track.proofs.track_load.Goals as goal

pub returns-in_err-race_with : goal.returns-in_err-race_with
unfolding load_race load_tracked
returns-in_err-race_with c = raced _ (loaded c.args.cell) c.args.thread _ _ _ c.from_residual.ensures.1 c.in_err-race_with.ensures

pub returns : goal.returns
unfolding load_race load_tracked
returns c = clear _ (loaded c.args.cell) c.args.thread _ _ c.in_ok-race_with.ensures c.join_into.ensures
