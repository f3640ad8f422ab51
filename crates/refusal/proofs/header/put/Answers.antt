use borrow.Author.Tests.{lt-ltb, le-ltb, not-true, not-false}
use Rattle.rules.specs.Token.{bytes_of}
use Rattle.rules.specs.Table.{header_bytes}
use Rattle.refusal.specs.Headers.{put_header}
use Rattle.refusal.proofs.header.put.Goals as goal

pub returns-then-table-lt-HEADER_BYTES : goal.returns-then-table-lt-HEADER_BYTES
unfolding put_header bytes_of
returns-then-table-lt-HEADER_BYTES c = rw (lt-ltb _ header_bytes c.if-table-lt-HEADER_BYTES.true) c.fill.ensures

pub returns-then-not-is_count : goal.returns-then-not-is_count
unfolding put_header bytes_of
returns-then-not-is_count c =
    rw (
      le-ltb _ header_bytes c.if-table-lt-HEADER_BYTES.false,
      ← c.wide8-threads.ensures.same,
      ← c.is_count.ensures,
      not-true c.is_count.result c.if-not-is_count.true-raw,
    ) c.fill-then-not-is_count.ensures

pub returns-then-not-is_count-2 : goal.returns-then-not-is_count-2
unfolding put_header bytes_of
returns-then-not-is_count-2 c =
    rw (
      le-ltb _ header_bytes c.if-table-lt-HEADER_BYTES.false,
      ← c.wide8-threads.ensures.same,
      ← c.is_count.ensures,
      not-false c.is_count.result c.if-not-is_count.false-raw,
      ← c.wide8-cells.ensures.same,
      ← c.is_count-2.ensures,
      not-true c.is_count-2.result c.if-not-is_count-2.true-raw,
    ) c.fill-then-not-is_count-2.ensures

pub returns : goal.returns
unfolding put_header
returns c =
    rw (
      le-ltb _ header_bytes c.if-table-lt-HEADER_BYTES.false,
      ← c.wide8-threads.ensures.same,
      ← c.is_count.ensures,
      not-false c.is_count.result c.if-not-is_count.false-raw,
      ← c.wide8-cells.ensures.same,
      ← c.is_count-2.ensures,
      not-false c.is_count-2.result c.if-not-is_count-2.false-raw,
    ) c.put_behind.ensures
