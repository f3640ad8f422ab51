use borrow.Author.Tests.{lt-ltb, le-ltb}
use Rattle.rules.specs.Token.{bytes_of}
use Rattle.bad_condition.specs.Conditions.{put_found, put_bad_condition}
use Rattle.bad_condition.proofs.put.Goals as goal

pub returns-then-condition-gt-CONDITION_BYTES : goal.returns-then-condition-gt-CONDITION_BYTES
unfolding put_bad_condition bytes_of
returns-then-condition-gt-CONDITION_BYTES c = rw (lt-ltb 1024 _ c.if-condition-gt-CONDITION_BYTES.true) c.fill.ensures

pub returns-in-Err : goal.returns-in-Err
unfolding put_bad_condition put_found
returns-in-Err c =
    rw (le-ltb 1024 _ c.if-condition-gt-CONDITION_BYTES.false, ← c.shape-shape.ensures, ← c.wide16-threads.ensures.same, ← c.first_bad.ensures, c.in-Err.is) c.put_bad.ensures

pub returns-in-Ok : goal.returns-in-Ok
unfolding put_bad_condition put_found bytes_of
returns-in-Ok c =
    rw (le-ltb 1024 _ c.if-condition-gt-CONDITION_BYTES.false, ← c.shape-shape.ensures, ← c.wide16-threads.ensures.same, ← c.first_bad.ensures, c.in-Ok.is) c.fill-in-Ok.ensures
