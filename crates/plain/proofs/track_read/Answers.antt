use Rattle.rules.specs.Plain.{plain_read_race, plain_read_tracked}
use Rattle.rules.specs.State.{read_access}
use Rattle.track.proofs.TrackLaws.{raced, clear}
use Rattle.plain.proofs.track_read.Goals as goal

pub returns-in_err-race_with : goal.returns-in_err-race_with
unfolding plain_read_race plain_read_tracked
returns-in_err-race_with c = raced _ (read_access c.args.plain) c.args.thread _ _ _ c.from_residual.ensures.1 c.in_err-race_with.ensures

pub returns : goal.returns
unfolding plain_read_race plain_read_tracked
returns c = clear _ (read_access c.args.plain) c.args.thread _ _ c.in_ok-race_with.ensures c.join_into.ensures
