use Rattle.rules.specs.Token.{bytes_of}
use borrow.Author.Tests.{le-leb, lt-leb}
use Rattle.stop.specs.Stops.{put_row}
use Rattle.stop.proofs.put_row.Goals as goal

pub returns-then-row_count-row : goal.returns-then-row_count-row
unfolding put_row bytes_of
returns-then-row_count-row c =
    rw (← c.row_count.ensures, le-leb _ _ c.if-row_count-row.true) c.put.ensures

pub returns : goal.returns
unfolding put_row
returns c =
    rw (← c.row_count.ensures, lt-leb _ _ c.if-row_count-row.false) c.put-2.ensures
