use Rattle.race.specs.Races.{put_race}
use Rattle.race.proofs.put.Goals as goal

pub returns : goal.returns
unfolding put_race
returns c =
    rw (c.put_met-to.ensures, c.race_said-met.ensures, c.cell_at-cell.ensures) at c.put_before.ensures
