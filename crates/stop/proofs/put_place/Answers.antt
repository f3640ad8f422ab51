use Rattle.rules.specs.Token.{bytes_of}
use borrow.Author.Tests.{le-leb, lt-leb, lt-ltb, le-ltb}
use Rattle.stop.specs.Stops.{put_place}
use Rattle.stop.proofs.put_place.Goals as goal
use Rattle.stop.proofs.put_place.Goals.{then-site-via-then-site, then-site-via-else-site+then-site-2}

pub returns-then-site : goal.returns-then-site
unfolding put_place
returns-then-site c =
    elim c.then-site.branch [
      | then-site-via-then-site w ↦ rw (le-leb 5 _ w.if-site.true)
      | then-site-via-else-site+then-site-2 w ↦ rw (lt-leb 5 _ w.if-site.false, lt-ltb 64 _ w.if-site-2.true)
    ]

pub returns : goal.returns
unfolding put_place bytes_of
returns c =
    rw (lt-leb 5 _ c.if-site.false, le-ltb 64 _ c.if-site-2.false, ← c.put_how-to.ensures, ← c.fill-to.ensures, ← c.put_row-to.ensures) c.put.ensures
