use borrow.Author.Tests.{lt-ltb, le-ltb}
use Rattle.rules.specs.Token.{bytes_of}
use Rattle.limit.specs.Limits.{put_raise}
use Rattle.limit.proofs.put_raise.Goals as goal

pub returns-then-given-most : goal.returns-then-given-most
unfolding put_raise bytes_of
returns-then-given-most c =
    rw (lt-ltb _ _ c.if-given-most.true) (rw (c.put-to-then-given-most.ensures, c.put-to.ensures) at c.fill.ensures)

pub returns : goal.returns
unfolding put_raise bytes_of
returns c =
    rw (le-ltb _ _ c.if-given-most.false) (rw (c.put-to-3.ensures, c.put-to-2.ensures) at c.fill-2.ensures)
