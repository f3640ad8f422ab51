use mathlib.Core.Path.{ap}
use Rattle.rules.specs.Token.{bytes_of}
use Rattle.put.proofs.PutLaws.{puts-are}
use Rattle.saying.proofs.SayLaws.{row-own, row-none}
use Rattle.saying.proofs.put_why_no_row.Goals as goal

pub returns-then-target-row : goal.returns-then-target-row
unfolding bytes_of
returns-then-target-row c = puts-are _ _ _ _ _ _ (ap bytes_of (row-own _ _ c.if-target-row.true)) c.put_bytes.ensures

pub returns : goal.returns
unfolding bytes_of
returns c = puts-are _ _ _ _ _ _ (ap bytes_of (row-none _ _ c.if-target-row.false)) c.put_bytes-2.ensures
