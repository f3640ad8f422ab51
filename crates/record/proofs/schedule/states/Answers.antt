use Rattle.record.specs.Fields.{states_at, states_in}
use Rattle.record.proofs.schedule.states.Goals as goal

pub returns : goal.returns
unfolding states_at states_in
returns c = c.part.ensures
