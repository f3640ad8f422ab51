use mathlib.Core.Path.{◌≡◌}
use lib.ListN.{length}
use Rattle.vv.proofs.Walks.{raising}
use Rattle.vv.proofs.VersionVec.raise.Given as goal

abbrev pub invariant-loop-i : goal.invariant-loop-i
invariant-loop-i l =
    (length l.self.versions ≡ 5) × (l.self.versions ≡ raising l.initial.self.versions l.thread l.i)
