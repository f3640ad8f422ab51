use borrow.Author.Tests.{le-ltb, lt-ltb}
use Rattle.rules.specs.Token.{bytes_of}
use Rattle.rules.specs.Table.{max_threads}
use Rattle.bad_row.specs.Rows.{put_bad_row}
use Rattle.bad_row.proofs.put.Goals as goal

pub returns-then-t-ge-MAX_THREADS : goal.returns-then-t-ge-MAX_THREADS
unfolding put_bad_row
returns-then-t-ge-MAX_THREADS c = rw (← c.wide8-t.ensures.same, le-ltb _ max_threads c.if-t-ge-MAX_THREADS.true)

pub returns : goal.returns
unfolding put_bad_row bytes_of
returns c =
    let same = c.wide8-t.ensures.same in
    rw (
      lt-ltb _ max_threads (rw same at c.if-t-ge-MAX_THREADS.false),
      ← c.fill-to.ensures,
      ← c.shape-shape.ensures,
      ← same,
      ← c.room_in-room.ensures,
      ← c.thread_row-fields.ensures,
      ← c.wrong.ensures,
      ← c.put-to.ensures,
    ) c.put.ensures
