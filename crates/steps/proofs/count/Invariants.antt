use mathlib.Core.Path.{◌≡◌}
use Rattle.steps.specs.Entries.{entries}
use Rattle.steps.proofs.EntryLaws.{entries_left}
use Rattle.steps.proofs.count.Given as goal

abbrev pub invariant-loop-i : goal.invariant-loop-i
invariant-loop-i l = entries_left l.trace l.i ≡ entries l.trace
