use Rattle.rules.specs.Token.{bytes_of}
use Rattle.listing.specs.Words.{put_came}
use Rattle.listing.proofs.came.put.Goals as goal

pub returns-in_default : goal.returns-in_default
unfolding put_came bytes_of
returns-in_default c = rw c.in_default.is c.put.ensures

pub returns-in-Read : goal.returns-in-Read
unfolding put_came
returns-in-Read c = rw (c.in-Some.is, c.in-Read.is) c.put_read.ensures

pub returns-in-Stored : goal.returns-in-Stored
unfolding put_came bytes_of
returns-in-Stored c = rw (c.in-Some.is, c.in-Stored.is) c.put_with.ensures

pub returns-in-Wrote : goal.returns-in-Wrote
unfolding put_came bytes_of
returns-in-Wrote c = rw (c.in-Some.is, c.in-Wrote.is) (rw c.put_read-to.ensures at c.put_with-in-Wrote.ensures)

pub returns-in-Failed : goal.returns-in-Failed
unfolding put_came bytes_of
returns-in-Failed c = rw (c.in-Some.is, c.in-Failed.is) (rw c.put_read-to-in-Failed.ensures at c.put-in-Failed.ensures)

pub returns-in-Left : goal.returns-in-Left
unfolding put_came bytes_of
returns-in-Left c = rw (c.in-Some.is, c.in-Left.is) c.fill.ensures

pub returns-in-Took : goal.returns-in-Took
unfolding put_came bytes_of
returns-in-Took c = rw (c.in-Some.is, c.in-Took.is) c.put_with-in-Took.ensures

pub returns-in-Jumped : goal.returns-in-Jumped
unfolding put_came
returns-in-Jumped c = rw (c.in-Some.is, c.in-Jumped.is) c.put_taken.ensures

pub returns-in-Passed : goal.returns-in-Passed
unfolding put_came bytes_of
returns-in-Passed c = rw (c.in-Some.is, c.in-Passed.is) c.put-in-Passed.ensures

pub returns-in-Written : goal.returns-in-Written
unfolding put_came bytes_of
returns-in-Written c = rw (c.in-Some.is, c.in-Written.is) c.put_with-in-Written.ensures
