use borrow.Author.Tests.{eq-eqb, ne_eqb}
use Rattle.rules.specs.Token.{bytes_of}
use Rattle.coverage.specs.Says.{put_bounded}
use Rattle.coverage.proofs.put_bounded.Goals as goal

pub returns-in_default : goal.returns-in_default
unfolding put_bounded
returns-in_default c = rw c.in_default.is

pub returns-then-most-eq0 : goal.returns-then-most-eq0
unfolding put_bounded bytes_of
returns-then-most-eq0 c =
    rw (c.in-Some.is, eq-eqb _ 0 c.if-most-eq0.true) c.put.ensures

pub returns : goal.returns
unfolding put_bounded bytes_of
returns c =
    rw (c.in-Some.is, ne_eqb _ 0 c.if-most-eq0.false) c.fill.ensures
