use Rattle.table.proofs.Header.{rows_all}
use Rattle.refusal.proofs.header.size.Goals as goal

pub returns : goal.returns
returns c =
    rw (
      c.wide8.ensures.same,
      c.wide8-2.ensures.same,
      c.wide16.ensures.same,
      c.wide16-2.ensures.same,
      c.shape-shape.ensures,
      rows_all _ c.requires,
    )
