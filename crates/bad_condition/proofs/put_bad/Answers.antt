use borrow.Author.Tests.{le-leb, lt-leb}
use Rattle.rules.specs.Token.{bytes_of}
use Rattle.bad_condition.specs.Conditions.{put_bad}
use Rattle.bad_condition.proofs.put_bad.Goals as goal

pub returns-then-condition-from : goal.returns-then-condition-from
unfolding put_bad bytes_of
returns-then-condition-from c = rw (le-leb _ _ c.if-condition-from.true) c.fill.ensures

pub returns : goal.returns
unfolding put_bad bytes_of
returns c =
    rw (lt-leb _ _ c.if-condition-from.false, ← c.wide8.ensures.same)
    (rw (c.put_reason-to.ensures, c.fill-to.ensures) at c.put.ensures)
