use mathlib.Core.Path.{◌≡◌}
use Rattle.listing.specs.Steps.{widest}
use Rattle.listing.proofs.width.Given as goal

abbrev pub invariant-loop-i : goal.invariant-loop-i
invariant-loop-i l = l.most ≡ widest l.table l.trace l.i
