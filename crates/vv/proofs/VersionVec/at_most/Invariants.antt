use mathlib.Core.Path.{◌≡◌}
use lib.ListN.{drop}
use Rattle.rules.specs.Vector.{at_most}
use Rattle.vv.proofs.VersionVec.at_most.Given as goal

abbrev pub invariant-loop-i : goal.invariant-loop-i
invariant-loop-i l =
    at_most (drop l.i l.self.versions) (drop l.i l.other.versions) ≡ at_most l.self.versions l.other.versions
