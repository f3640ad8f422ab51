use mathlib.Core.Path.{◌≡◌}
use Rattle.steps.proofs.HoldLaws.{cells_started}
use Rattle.steps.proofs.held.start.Given as goal

abbrev pub invariant-loop-cell : goal.invariant-loop-cell
invariant-loop-cell l = l.held ≡ cells_started l.table l.cell
