use mathlib.Core.Path.{◌≡◌}
use lib.ListN.{drop}
use Rattle.rules.specs.Vector.{ahead}
use Rattle.vv.proofs.Walks.{past}
use Rattle.vv.proofs.VersionVec.ahead.Given as goal

abbrev pub invariant-loop-i : goal.invariant-loop-i
invariant-loop-i l =
    past l.i (ahead (drop l.i l.self.versions) (drop l.i l.other.versions)) ≡ ahead l.self.versions l.other.versions
