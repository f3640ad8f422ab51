use mathlib.Core.Path.{◌≡◌}
use lib.ListN.{length}
use Rattle.rules.specs.Vector.{joined}
use Rattle.vv.proofs.Walks.{joining}
use Rattle.vv.proofs.VersionVec.join.Given as goal

abbrev pub invariant-loop-i : goal.invariant-loop-i
invariant-loop-i l =
    (length l.self.versions ≡ 5) × (joining l.self.versions l.other.versions l.i ≡ joined l.initial.self.versions l.other.versions)
