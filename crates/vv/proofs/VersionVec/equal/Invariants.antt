use mathlib.Core.Path.{◌≡◌}
use lib.ListN.{drop}
use Rattle.rules.specs.Vector.{equal}
use Rattle.vv.proofs.VersionVec.equal.Given as goal

abbrev pub invariant-loop-i : goal.invariant-loop-i
invariant-loop-i l =
    equal (drop l.i l.self.versions) (drop l.i l.other.versions) ≡ equal l.self.versions l.other.versions
