use mathlib.Core.Path.{◌≡◌}
use Rattle.path.specs.Holds.{Holds}
use Rattle.rules.specs.Path.{Branch, exploring_below}
use mathlib.Core.List.{List}
use Prim.Native.Nat.{◌≤◌, ◌+◌, ◌*◌}
use lib.ListN.{length}
use Rattle.path.proofs.exploring_from.Given as goal

abbrev pub invariant-loop-at : goal.invariant-loop-at
invariant-loop-at l =
    (16 * l.at ≤ length l.path) × ((bs : List Branch) → Holds l.path bs → exploring_below bs (l.point + 1) ≡ exploring_below bs l.at)
