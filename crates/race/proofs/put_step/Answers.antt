use Rattle.rules.specs.Token.{bytes_of}
use Rattle.race.specs.Races.{put_step}
use Rattle.race.proofs.put_step.Goals as goal

pub returns-in_default : goal.returns-in_default
unfolding put_step bytes_of
returns-in_default c = rw c.in_default.is c.fill.ensures

pub returns : goal.returns
unfolding put_step bytes_of
returns c = rw c.in-Some.is (rw c.row.ensures at c.fill-2.ensures)
