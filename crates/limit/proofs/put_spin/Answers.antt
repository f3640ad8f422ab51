use Rattle.rules.specs.Token.{bytes_of}
use Rattle.limit.specs.Limits.{put_spin}
use Rattle.limit.proofs.put_spin.Goals as goal

pub returns-in_default : goal.returns-in_default
unfolding put_spin
returns-in_default c = rw (← c.count-n.ensures, ← c.period.ensures, c.in_default.is)

pub returns-then-yields : goal.returns-then-yields
unfolding put_spin bytes_of
returns-then-yields c =
    rw (← c.count-n.ensures, ← c.period.ensures, c.in-Some.is, ← c.yields.ensures, c.if-yields.true) c.fill.ensures

pub returns : goal.returns
unfolding put_spin bytes_of
returns c =
    rw (← c.count-n.ensures, ← c.period.ensures, c.in-Some.is, ← c.yields.ensures, c.if-yields.false) c.fill-2.ensures
