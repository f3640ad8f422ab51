use borrow.Author.Tests.{lt-ltb, le-ltb}
use Rattle.rules.specs.Token.{bytes_of}
use Rattle.refusal.specs.Headers.{put_rows}
use Rattle.refusal.proofs.header.put_rows.Goals as goal

pub returns-then-thread-threads : goal.returns-then-thread-threads
unfolding put_rows bytes_of
returns-then-thread-threads c =
    rw (lt-ltb _ _ c.if-thread-threads.true, ← c.fill-to.ensures) c.fill.ensures

pub returns : goal.returns
unfolding put_rows bytes_of
returns c =
    rw (le-ltb _ _ c.if-thread-threads.false, ← c.fill-to.ensures) c.put.ensures
