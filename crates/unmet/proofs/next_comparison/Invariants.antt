use mathlib.Core.Path.{◌≡◌}
use Rattle.unmet.specs.Parts.{next_from}
use Rattle.unmet.proofs.PartLaws.{next_left}
use Rattle.unmet.proofs.next_comparison.Given as goal

abbrev pub invariant-loop-i : goal.invariant-loop-i
invariant-loop-i l = next_left l.condition l.i ≡ next_from l.condition l.from
