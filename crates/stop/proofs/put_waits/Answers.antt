use Rattle.rules.specs.Token.{bytes_of}
use borrow.Author.Tests.{ne_eqb}
use Rattle.stop.specs.Stops.{put_waits}
use Rattle.stop.proofs.put_waits.Goals as goal

pub returns-then-state-ne-BLOCKED : goal.returns-then-state-ne-BLOCKED
unfolding put_waits
returns-then-state-ne-BLOCKED c = rw (ne_eqb _ 2 c.if-state-ne-BLOCKED.true)

pub returns : goal.returns
unfolding put_waits bytes_of
returns c =
    rw (c.if-state-ne-BLOCKED.false, ← c.next_row-row.ensures, ← c.fill-to.ensures, ← c.put-to.ensures) c.put.ensures
