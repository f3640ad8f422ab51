use borrow.Author.Tests.{lt-ltb, le-ltb}
use Rattle.rules.specs.Token.{bytes_of}
use Rattle.rules.specs.Table.{max_plains}
use Rattle.refusal.specs.Headers.{put_behind}
use Rattle.refusal.proofs.header.put_behind.Goals as goal

pub returns-in-Some : goal.returns-in-Some
unfolding put_behind
returns-in-Some c =
    rw (← c.bad_count.ensures.same, c.in-Some.is, ← c.wide8-count.ensures.same) c.put_rows.ensures

pub returns-then-plains-gt-MAX_PLAINS : goal.returns-then-plains-gt-MAX_PLAINS
unfolding put_behind bytes_of
returns-then-plains-gt-MAX_PLAINS c =
    rw (
      ← c.bad_count.ensures.same,
      c.in_default.is,
      ← c.wide8-plains.ensures.same,
      lt-ltb max_plains _ c.if-plains-gt-MAX_PLAINS.true,
    ) c.fill.ensures

pub returns : goal.returns
unfolding put_behind bytes_of
returns c =
    rw (
      ← c.bad_count.ensures.same,
      c.in_default.is,
      ← c.size.ensures,
      ← c.wide8-plains.ensures.same,
      le-ltb max_plains _ c.if-plains-gt-MAX_PLAINS.false,
    ) c.fill-2.ensures
