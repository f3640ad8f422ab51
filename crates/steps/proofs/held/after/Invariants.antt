use mathlib.Core.Path.{◌≡◌}
use Rattle.steps.specs.Holds.{held_after}
use Rattle.steps.proofs.held.after.Given as goal

abbrev pub invariant-loop-i : goal.invariant-loop-i
invariant-loop-i l = l.held ≡ held_after l.table l.trace l.i
