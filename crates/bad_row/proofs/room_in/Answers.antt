use Rattle.bad_row.proofs.room_in.Goals as goal

pub returns : goal.returns
returns c =
    rw (
      c.wide16.ensures.same,
      c.wide16-2.ensures.same,
      c.wide16-3.ensures.same,
      c.wide16-4.ensures.same,
      c.wide8.ensures.same,
    )
