use borrow.Author.Tests.{eq-eqb, ne_eqb}
use Rattle.rules.specs.Token.{bytes_of}
use Rattle.listing.specs.Words.{put_read}
use Rattle.listing.proofs.came.put_read.Goals as goal

pub returns-then-writer-eq0 : goal.returns-then-writer-eq0
unfolding put_read bytes_of
returns-then-writer-eq0 c = rw (eq-eqb _ 0 c.if-writer-eq0.true) c.fill.ensures

pub returns : goal.returns
unfolding put_read bytes_of
returns c = rw (ne_eqb _ 0 c.if-writer-eq0.false) c.fill-2.ensures
