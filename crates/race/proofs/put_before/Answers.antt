use Rattle.race.specs.Races.{put_before}
use Rattle.race.proofs.put_before.Goals as goal

pub returns : goal.returns
unfolding put_before
returns c =
    rw (c.last-step.ensures.same, c.count.ensures, c.put_kind-to.ensures) at c.put_step.ensures
