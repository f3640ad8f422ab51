use Rattle.rules.specs.Plain.{plain_write_race, plain_write_tracked}
use Rattle.rules.specs.State.{write_access}
use Rattle.track.proofs.TrackLaws.{here, past, raced, clear}
use Rattle.plain.proofs.track_write.Goals as goal

pub returns-in_err-race_with : goal.returns-in_err-race_with
unfolding plain_write_race plain_write_tracked
returns-in_err-race_with c = raced _ (write_access c.args.plain) c.args.thread _ _ _ c.from_residual.ensures.1 (here _ _ _ _ c.in_err-race_with.ensures)

pub returns-in_err-race_with-2 : goal.returns-in_err-race_with-2
unfolding plain_write_race plain_write_tracked
returns-in_err-race_with-2 c = raced _ (write_access c.args.plain) c.args.thread _ _ _ c.from_residual-in_err-race_with-2.ensures.1 (past _ _ _ c.in_ok-race_with.ensures c.in_err-race_with-2.ensures)

pub returns : goal.returns
unfolding plain_write_race plain_write_tracked
returns c = clear _ (write_access c.args.plain) c.args.thread _ _ (past _ _ _ c.in_ok-race_with.ensures c.in_ok-race_with-2.ensures) c.join_into.ensures
