use lib.ListN.{length, take}
use mathlib.Core.Path.{◌≡◌}
use Rattle.path.specs.Holds.{Holds}
use Rattle.rules.specs.Path.{Branch, last_schedule}
use mathlib.Core.List.{List}
use Prim.Native.Nat.{◌≤◌}
use Rattle.path.proofs.last_schedule.Given as goal

abbrev pub invariant-loop-last : goal.invariant-loop-last
invariant-loop-last l =
    (l.last ≤ l.len) × ((bs : List Branch) → Holds l.path bs → length bs ≡ l.len → last_schedule bs ≡ last_schedule (take l.last bs))
