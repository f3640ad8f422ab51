use borrow.Author.Tests.{lt-ltb, le-ltb}
use Rattle.rules.specs.Token.{bytes_of}
use Rattle.coverage.specs.Says.{put_stores}
use Rattle.coverage.proofs.put_stores.Goals as goal

pub returns-then-stores-lt-KEPT : goal.returns-then-stores-lt-KEPT
unfolding put_stores
returns-then-stores-lt-KEPT c = rw (← c.stores-stores.ensures, lt-ltb _ 7 c.if-stores-lt-KEPT.true)

pub returns : goal.returns
unfolding put_stores bytes_of
returns c =
    rw (← c.stores-stores.ensures, le-ltb _ 7 c.if-stores-lt-KEPT.false) c.fill.ensures
