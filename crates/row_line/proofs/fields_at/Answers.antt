use mathlib.Core.Path.{ap}
use Rattle.rules.specs.Writer.{fields_of}
use Rattle.row_line.proofs.fields_at.Goals as goal

pub returns : goal.returns
returns c =
    rw (c.long8.ensures, c.long8-2.ensures, c.long8-3.ensures, c.long8-4.ensures, c.long8-5.ensures, c.long8-6.ensures, c.long16.ensures)
    (ap fields_of c.row_at-row.ensures)
