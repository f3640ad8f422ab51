use mathlib.Core.Path.{◌≡◌}
use lib.ListN.{drop}
use Rattle.vv.specs.Compared.{ordering_of}
use Rattle.vv.proofs.Walks.{after}
use Rattle.vv.proofs.VersionVec.partial_cmp.Given as goal

abbrev pub invariant-loop-i : goal.invariant-loop-i
invariant-loop-i l =
    after l.same (ordering_of (drop l.i l.self.versions) (drop l.i l.other.versions)) ≡ ordering_of l.self.versions l.other.versions
