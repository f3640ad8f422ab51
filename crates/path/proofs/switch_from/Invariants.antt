use Rattle.path.proofs.WalkLaws.{Walks}
use Prim.Native.Nat.{◌≤◌}
use Rattle.path.proofs.switch_from.Given as goal

abbrev pub invariant-loop-prev : goal.invariant-loop-prev
invariant-loop-prev l =
    (l.curr ≤ l.from) × Walks l.path l.from l.curr

abbrev pub decreases-loop-prev : goal.decreases-loop-prev
decreases-loop-prev l = l.curr
