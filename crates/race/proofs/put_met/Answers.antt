use Rattle.rules.specs.Token.{bytes_of}
use Rattle.race.specs.Races.{put_met}
use Rattle.race.proofs.put_met.Goals as goal

pub returns : goal.returns
unfolding put_met bytes_of
returns c =
    rw (c.put_kind-to.ensures, c.put_where-to.ensures) at c.fill.ensures
