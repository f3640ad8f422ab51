use mathlib.Core.Path.{◌≡◌}
use Rattle.rules.specs.Table.{first_bad}
use Rattle.table.proofs.Walks.{bad_left}
use Rattle.table.proofs.first_bad.Given as goal

abbrev pub invariant-loop-i : goal.invariant-loop-i
invariant-loop-i l = bad_left l.table l.first l.count l.i ≡ first_bad l.table l.first l.count
